-- The passing images of specs/Witnesses, by one computed test: each image is loaded, and the heights and depths listed for its chunks pass the
-- local test at every offset.
use mathlib.Core.Path.{◌≡◌, subst}
use mathlib.Core.List.{List, [], ◌∷◌}
use mathlib.Core.Bool.{Bool, true, false}
use Prim.Native.Nat.{ℕ, zero, suc, ◌<◌}
use native.Mathlib.Omega.{arith}
use native.Mathlib.Nat.{not-suc-le-zero}
use native.Mathlib.Decide.{dec_lt}
use lib.Dec.{T, eqb, eqb→eq}
use lib.ListN.{length, get_or, drop}
use Rattle.definition.specs.Image.{Chunk, Image, chunk_at}
use Rattle.definition.specs.Lines.{
  Load,
  image,
  refused,
  split,
  digit,
  bytes_of,
  line_of,
  number_from,
  printable,
  text_of,
  chunk_of,
  listed,
  widths,
  width_of,
  scalar,
  allowed,
  constant_of,
  code_line,
  code_of,
  end_of,
  record_of,
  reads,
  load_image,
}
use Rattle.definition.specs.Table.{op_codes}
use Rattle.definition.specs.Constants.{constant_at, function_at, str_at}
use Rattle.definition.specs.Decode.{word, decode, target_at, fault}
use Rattle.definition.specs.StackCheck.{ChunkPasses, Passes}
use Rattle.definition.specs.CheckAnswer.{pass, passes}
use Rattle.definition.specs.Answers.{checked, AnswersLoaded}
use Rattle.definition.specs.Witnesses.{passing_images, EachPasses}
use Rattle.definition.proofs.TestedHeights as tested
use Rattle.definition.proofs.TestedHeights.{both, both_left, both_right, after_test, exact_test, pick, arrives, stands, local, every}

-- a reachable offset with its height and depth; of one at the end or past it they mean nothing
record Mark : Type 0 where
  offset : ℕ
  height : ℕ
  depth : ℕ

abbrev at : ℕ → ℕ → ℕ → Mark
at p h d = record { offset = p; height = h; depth = d }

abbrev marked : List Mark → ℕ → Bool
marked [] p = false
marked (m ∷ ms) p = elim (eqb m.offset p) [ true ↦ true | false ↦ marked ms p ]

abbrev height_at : List Mark → ℕ → ℕ
height_at [] p = 0
height_at (m ∷ ms) p = elim (eqb m.offset p) [ true ↦ m.height | false ↦ height_at ms p ]

abbrev depth_at : List Mark → ℕ → ℕ
depth_at [] p = 0
depth_at (m ∷ ms) p = elim (eqb m.offset p) [ true ↦ m.depth | false ↦ depth_at ms p ]

-- ---- The test of a chunk, of an image, of bytes, of a list of them
unfoldable chunk_test : Chunk → List Mark → Bool
chunk_test c ms =
    both (marked ms 0) (both (eqb (height_at ms 0) 0) (both (eqb (depth_at ms 0) 0) (every c (marked ms) (height_at ms) (depth_at ms) (length c.code))))

chunk_passes : (c : Chunk) (ms : List Mark) → T (chunk_test c ms) → ChunkPasses c
unfolding chunk_test
chunk_passes c ms t =
    let u = both_right (marked ms 0) _ t in
    let v = both_right (eqb (height_at ms 0) 0) _ u in
    tested.passes c (marked ms) (height_at ms) (depth_at ms) (both_left (marked ms 0) _ t) (eqb→eq _ 0 (both_left (eqb (height_at ms 0) 0) _ u)) (eqb→eq
    _ 0 (both_left (eqb (depth_at ms 0) 0) _ v)) (both_right (eqb (depth_at ms 0) 0) _ v)

-- the first n chunks
unfoldable chunks_test : Image → List (List Mark) → ℕ → Bool
chunks_test im ms zero = true
chunks_test im ms (suc n) = both (chunk_test (chunk_at im n) (get_or ms n [])) (chunks_test im ms n)

chunks_pass : (im : Image) (ms : List (List Mark)) (n c : ℕ) → T (chunks_test im ms n) → c < n → ChunkPasses (chunk_at im c)
unfolding chunks_test
chunks_pass im ms zero c t k = absurd (not-suc-le-zero k)
chunks_pass im ms (suc n) c t k = go (chunks_pass im ms n c (both_right (chunk_test (chunk_at im n) (get_or ms n [])) (chunks_test im ms n) t)) (dec_lt c n)
  where
    go : (c < n → ChunkPasses (chunk_at im c)) → Dec (c < n) → ChunkPasses (chunk_at im c)
    go f (yes m) = f m
    go f (no m) =
        let e : n ≡ c = omega arith in
        subst (λ (x : ℕ). ChunkPasses (chunk_at im x)) e (chunk_passes (chunk_at im n) (get_or ms n []) (both_left (chunk_test (chunk_at im n) (get_or ms n [])) (chunks_test im ms n) t))

unfoldable loaded_test : Load → List (List Mark) → Bool
loaded_test (refused n k) ms = false
loaded_test (image im) ms = chunks_test im ms (length im.chunks)

loaded_passes : (l : Load) (ms : List (List Mark)) → T (loaded_test l ms) → AnswersLoaded l (checked pass)
unfolding loaded_test Passes
loaded_passes (refused n k) ms t = absurd t
loaded_passes (image im) ms t = passes (λ c k. chunks_pass im ms (length im.chunks) c t k)

unfoldable each_test : List (List ℕ) → List (List (List Mark)) → Bool
each_test [] ms = true
each_test (b ∷ bs) ms = both (loaded_test (load_image b) (get_or ms 0 [])) (each_test bs (drop 1 ms))

each_passes : (bs : List (List ℕ)) (ms : List (List (List Mark))) → T (each_test bs ms) → EachPasses bs
unfolding each_test
each_passes [] ms t = tt
each_passes (b ∷ bs) ms t = (
  loaded_passes (load_image b) (get_or ms 0 []) (both_left (loaded_test (load_image b) (get_or ms 0 [])) (each_test bs (drop 1 ms)) t),
  each_passes bs (drop 1 ms) (both_right (loaded_test (load_image b) (get_or ms 0 [])) (each_test bs (drop 1 ms)) t),
)

-- ---- The heights and depths of the images of `passing_images`, chunk by chunk
unfoldable heights : List (List (List Mark))
heights =
    (
    (at 0 0 0 ∷ at 3 1 0 ∷ at 6 0 0 ∷ at 9 1 0 ∷ at 12 2 0 ∷ at 13 1 0 ∷ at 16 2 0 ∷ at 17 1 0 ∷ at 20 2 0 ∷ at 21 1 0 ∷ at 24 2 0 ∷ at 25 1 0 ∷ at 26
    1 0 ∷ at 29 1 0 ∷ at 30 0 0 ∷ at 33 1 0 ∷ at 34 1 0 ∷ at 37 0 0 ∷ at 40 1 0 ∷ at 43 0 0 ∷ at 46 1 0 ∷ at 47 0 0 ∷ at 50 1 0 ∷ at 53 2 0 ∷ at
    54 1 0 ∷ at 57 0 0 ∷ at 60 0 0 ∷ at 61 0 1 ∷ at 64 1 1 ∷ at 67 0 1 ∷ at 70 1 1 ∷ at 73 1 1 ∷ at 74 0 1 ∷ at 75 0 0 ∷ at 78 1 0 ∷ at 81 2 0 ∷
    at 82 1 0 ∷ at 85 2 0 ∷ at 88 3 0 ∷ at 89 2 0 ∷ at 90 1 0 ∷ at 93 2 0 ∷ at 94 1 0 ∷ at 97 2 0 ∷ at 98 1 0 ∷ at 99 0 0 ∷ at 102 1 0 ∷ at 105 2
    0 ∷ at 108 1 0 ∷ at 111 2 0 ∷ at 114 3 0 ∷ at 115 1 0 ∷ at 116 1 0 ∷ at 119 2 0 ∷ at 122 1 0 ∷ at 125 2 0 ∷ at 126 1 0 ∷ at 127 1 0 ∷ at 128 1
    0 ∷ at 129 1 0 ∷ at 130 1 0 ∷ at 131 1 0 ∷ at 134 1 0 ∷ at 143 1 0 ∷ at 144 0 0 ∷ at 147 1 0 ∷ at 150 2 0 ∷ at 153 1 0 ∷ at 154 0 0 ∷ at 159 1
    0 ∷ at 162 2 0 ∷ at 165 1 0 ∷ [])
    ∷ (at 0 0 0 ∷ at 3 1 0 ∷ [])
    ∷ [])
    ∷ (
    (at 0 0 0 ∷ at 1 0 1 ∷ [])
    ∷ (at 0 0 0 ∷ at 65538 0 0 ∷ [])
    ∷ (at 0 0 0 ∷ [])
    ∷ (at 0 0 0 ∷ at 3 1 0 ∷ at 6 0 0 ∷ at 7 0 1 ∷ [])
    ∷ (at 0 0 0 ∷ at 3 1 0 ∷ at 6 0 0 ∷ at 10 0 0 ∷ at 11 0 1 ∷ at 14 1 1 ∷ at 65541 0 0 ∷ [])
    ∷ (at 0 0 0 ∷ at 3 1 0 ∷ at 6 0 0 ∷ at 7 0 0 ∷ at 5663 0 0 ∷ at 5664 0 0 ∷ [])
    ∷ (at 0 0 0 ∷ at 3 1 0 ∷ at 6 1 0 ∷ at 9 0 0 ∷ at 12 1 0 ∷ at 15 1 0 ∷ at 18 1 0 ∷ at 19 0 0 ∷ at 24 1 0 ∷ at 25 1 0 ∷ at 34 1 0 ∷ at 35 0 0 ∷ [])
    ∷ (at 0 0 0 ∷ at 3 1 0 ∷ at 6 1 0 ∷ at 9 1 0 ∷ at 12 1 0 ∷ at 15 1 0 ∷ at 18 1 0 ∷ at 21 1 0 ∷ at 24 1 0 ∷ at 27 1 0 ∷ at 30 1 0 ∷ at 33 1 0 ∷ at
    36 1 0 ∷ at 37 0 0 ∷ at 40 1 0 ∷ at 43 2 0 ∷ at 46 1 0 ∷ at 47 0 0 ∷ [])
    ∷ (at 0 0 0 ∷ [])
    ∷ [])
    ∷ []

pub passing_passes : EachPasses passing_images
unfolding chunk_test chunks_test loaded_test each_test heights passing_images chunk_at every local pick stands arrives both after_test exact_test fault decode
    word op_codes constant_at function_at str_at target_at split digit bytes_of line_of number_from printable text_of chunk_of listed widths width_of scalar
    allowed constant_of code_line code_of end_of record_of reads load_image
passing_passes = each_passes passing_images heights tt
