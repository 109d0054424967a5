-- Laws on a line: printable bytes, numbers of several bytes, kinds and first bytes that are none.
use mathlib.Core.Path.{◌≡◌, refl, sym}
use mathlib.Core.Bool.{Bool, true, false, ◌&&◌, cond}
use mathlib.Core.List.{List}
use Prim.Native.Nat.{ℕ, ◌+◌, ◌*◌, ◌^◌, ◌≤◌, ◌<◌}
use native.Mathlib.Numerals.{add-one}
use native.Mathlib.Nat.{pow-suc, pow-le-pow_right}
use native.Mathlib.Omega.{arith}
use borrow.Author.Tests.{lt-leb, ne_eqb}
use lib.Dec.{leb, ltb, eqb}
use lib.ListN.{length, get_or, drop, drop_of_length-le}
use lib.Seq.{drop-cons}
use Rattle.definition.specs.Lines.{number_from, printable, listed, width_of, allowed, Seen, Record, text, opens, constant, code, ends, fault, judged, takes_text, text_of, chunk_ruled, chunk_of, takes_constant, constant_ruled, constant_of, takes_code, code_ruled, code_line, end_of, record_of}
use Rattle.definition.specs.Lines as lines
use Rattle.kinds.specs.Codes.{code_of}
use Rattle.kinds.specs.declared.Kind.{Kind}
use Rattle.kinds.specs.declared.Kind.TheVariants as kind
use Rattle.image_records.specs.Tags.{first_byte}
use Rattle.image_records.specs.declared.Tag.{Tag}
use Rattle.image_records.specs.declared.Tag.TheVariants as tag

-- printable
pub plain_next :
    (fine : Bool) (l : List ℕ) (i : ℕ) → i < length l
    → (fine && (leb 32 (get_or l i 0) && leb (get_or l i 0) 126) && printable (drop (i + 1) l)) ≡ (fine && printable (drop i l))
unfolding printable
plain_next true l i h = rw (add-one i, drop-cons l i 0 h)
plain_next false l i h = refl

pub plain_end : (l : List ℕ) (i : ℕ) → length l ≤ i → printable (drop i l) ≡ true
unfolding printable
plain_end l i h = rw (drop_of_length-le l h)

-- a number, high byte first
pub number_more : (l : List ℕ) (v i w : ℕ) → i < length l → w ≡ get_or l i 0 → number_from (v * 256 + w) (drop (i + 1) l) ≡ number_from v (drop i l)
unfolding number_from
number_more l v i w h e = rw (add-one i, drop-cons l i 0 h, e)

pub number_end : (l : List ℕ) (v i : ℕ) → length l ≤ i → v ≡ number_from v (drop i l)
unfolding number_from
number_end l v i h = rw (drop_of_length-le l h)

-- i bytes were read, of 8 at most
seven : (i : ℕ) → i < 8 → 256 ^ i ≤ 72057594037927936
seven i h = pow-le-pow_right {n = 256} (omega arith) {i = i} {j = 7} (omega arith)

pub number_room : (v i : ℕ) → v < 256 ^ i → i < 8 → v < 72057594037927936
number_room v i g h = let p = seven i h in omega arith

pub number_step : (v w i : ℕ) → v < 256 ^ i → w < 256 → v * 256 + w < 256 ^ (i + 1)
number_step v w i g h = rw (add-one i, pow-suc 256 i) (by (256 ^ i) g)
  where
    by : (p : ℕ) → v < p → v * 256 + w < p * 256
    by p g = omega arith

-- a number that is no kind's is that of no constant
up : {m k : ℕ} → m ≤ k → (m ≡ k → ⊥) → m + 1 ≤ k
up h n = omega arith

pub unlisted : (n : ℕ) → ((k : Kind) → code_of k ≡ n → ⊥) → listed n ≡ false
unfolding listed
unlisted n miss =
    let a : 2 ≤ n = up (up (omega arith) (miss kind.Null)) (miss kind.Int) in
    let b : 5 ≤ n = up (up (up a (miss kind.UInt)) (miss kind.SInt)) (miss kind.SUInt) in
    let d : 8 ≤ n = up (up (up b (miss kind.Float)) (miss kind.SFloat)) (miss kind.Bool) in
    let e : 11 ≤ n = up (up (up d (miss kind.Str)) (miss kind.Char)) (miss kind.Byte) in
    let f : 14 ≤ n = up (up (up e (miss kind.SByte)) (miss kind.BByte)) (miss kind.BSByte) in
    rw (lt-leb n 13 f, ne_eqb n 20 (λ q. miss kind.Function (sym q)))

-- ---- a constant's kind is a kind's code, so that `Kind::try_from` cannot fail on it
abbrev pub KindKnown : Record → Type 0
KindKnown (text b) = Unit {0}
KindKnown (opens arity name) = Unit {0}
KindKnown (constant k v) = ((n : Kind) → code_of n ≡ k → ⊥) → ⊥
KindKnown (code b) = Unit {0}
KindKnown ends = Unit {0}
KindKnown (fault n) = Unit {0}

judged_known : (o r m : Bool) (said : Record) → (r ≡ true → KindKnown said) → KindKnown (judged o r m said)
judged_known true true true said h = h refl
judged_known true true false said h = tt
judged_known true false m said h = tt
judged_known false r m said h = tt

either_known : (c : Bool) (x y : Record) → KindKnown x → KindKnown y → KindKnown (cond c x y)
either_known true x y h g = h
either_known false x y h g = g

-- where all four hold, the second does
second_holds : (x y z : Bool) → (x && false && y && z) ≡ true → ⊥
second_holds true y z e = let w : ◌≡◌ {A = ℕ} 0 1 = cc in omega arith
second_holds false y z e = let w : ◌≡◌ {A = ℕ} 0 1 = cc in omega arith

constant_known : (s : Seen) (b : List ℕ) → KindKnown (constant_of s b)
unfolding constant_of
constant_known s b =
    judged_known (takes_constant s.part) (constant_ruled s b) (ltb s.constants 256) (constant (get_or b 0 0) (number_from 0 (drop 1 b)))
    (λ e miss. second_holds (ltb 0 (length b)) (eqb (length b) (1 + width_of (get_or b 0 0))) (allowed s.texts s.chunks (get_or b 0 0) (number_from 0 (drop 1 b)))
    (rw (unlisted (get_or b 0 0) miss) at e))

pub kind_known : (s : Seen) (t : ℕ) (b : List ℕ) → KindKnown (record_of s t b)
unfolding record_of text_of chunk_of lines.code_of code_line end_of
kind_known s t b =
    either_known (eqb t 1) (text_of s b) _ (judged_known (takes_text s.part) (printable b) (ltb s.texts 256) (text b) (λ e. tt))
    (either_known (eqb t 2) (chunk_of s b) _ (judged_known true (chunk_ruled s b) (ltb s.chunks 64) (opens (get_or b 0 0) (number_from 0 (drop 1 b))) (λ e. tt))
    (either_known (eqb t 3) (constant_of s b) _ (constant_known s b)
    (either_known (eqb t 4) (lines.code_of s b) _ (judged_known (takes_code s.part) (code_ruled b) (leb (s.code + length b) 4096) (code b) (λ e. tt))
    (either_known (eqb t 5) (end_of s b) (fault 3) (judged_known (ltb 0 s.chunks) (eqb (length b) 0) true ends (λ e. tt)) tt))))

-- a first byte of no record
pub no_record : (s : Seen) (n : ℕ) (b : List ℕ) → ((t : Tag) → first_byte t ≡ n → ⊥) → record_of s n b ≡ fault 3
unfolding record_of
no_record s n b miss =
    simp (
      ne_eqb n 1 (λ e. miss tag.Text (sym e)),
      ne_eqb n 2 (λ e. miss tag.Chunk (sym e)),
      ne_eqb n 3 (λ e. miss tag.Constant (sym e)),
      ne_eqb n 4 (λ e. miss tag.Code (sym e)),
      ne_eqb n 5 (λ e. miss tag.End (sym e)),
    )
