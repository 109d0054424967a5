-- What reads brought behind one another, and what is in a buffer when reading is over.
use mathlib.Core.Path.{◌≡◌, sym, ap, ◌∙◌}
use mathlib.Core.List.{List, ◌++◌}
use Prim.Native.Nat.{ℕ, ◌+◌, ◌≤◌, ◌<◌}
use native.Mathlib.Omega.{arith}
use native.Mathlib.Decide.{dec_lt}
use borrow.Author.Tests.{lt-leb}
use lib.ListN.{length, take, drop}
use lib.Seq.{take-add, take_all, take_at, drop_at, length-take-le}
use borrow.Rule.Slice.PartMut.{put_mid, post_of}
use Rattle.std.proofs.lemmas.List.{take-append-le}
use Rattle.definition.specs.Lines.{load_image}
use Rattle.image_input.specs.Read.{ReadOf}

-- what a read brought stands behind what stood before it
pub taken_more :
    (at n k : ℕ) (buf part : List ℕ) → at ≤ length buf → n ≤ length part → take at buf ++ take n part ≡ take (at + n) (put_mid at k buf part)
taken_more at n k buf part a h =
    let rest = part ++ post_of at k buf in
    let front = length-take-le at buf a in
    sym (
    take-add at n (take at buf ++ rest)
    ∙ ap (λ (l : List ℕ). l ++ take n (drop at (take at buf ++ rest))) (take_at (take at buf) rest at front)
    ∙ ap (λ (l : List ℕ). take at buf ++ take n l) (drop_at (take at buf) rest at front)
    ∙ ap (λ (l : List ℕ). take at buf ++ l) (take-append-le n part (post_of at k buf) h)
    )

-- ---- of an input that fills a buffer of more than 65,536 bytes what was read is refused as the input is, with 1
pub same_load : (buf input : List ℕ) (n : ℕ) → 65536 < length buf → n ≤ length buf → ReadOf buf n input → load_image (take n buf) ≡ load_image input
unfolding load_image
same_load buf input n h l r = go (dec_lt (length buf) (length input))
  where
    go : Dec (length buf < length input) → load_image (take n buf) ≡ load_image input
    go (no s) = let t : length input ≤ length buf = omega arith in ap load_image (r ∙ take_all (length buf) input t)
    go (yes s) =
        let e : length (take n buf) ≡ length buf = ap length r ∙ length-take-le (length buf) input (omega arith) in
        let a : 65536 < length (take n buf) = omega arith in
        let b : 65536 < length input = omega arith in
        rw (lt-leb (length (take n buf)) 65536 a, lt-leb (length input) 65536 b)
