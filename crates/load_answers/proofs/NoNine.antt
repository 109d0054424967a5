-- No bytes are refused with 9: that number is the work slices' alone.
use mathlib.Core.Path.{◌≡◌, refl, ap}
use mathlib.Core.Bool.{Bool, true, ◌&&◌}
use mathlib.Core.List.{List, [], ◌∷◌}
use Prim.Native.Nat.{ℕ, ◌+◌, ◌≤◌}
use native.Mathlib.Omega.{arith}
use lib.ListN.{length, get_or, drop}
use lib.Dec.{ltb, leb, eqb}
use Rattle.definition.specs.Image.{Image}
use Rattle.definition.specs.Lines.{
  Load,
  image,
  refused,
  is_empty,
  split,
  Line,
  line,
  faulty,
  line_of,
  Part,
  in_texts,
  in_constants,
  add_text,
  add_chunk,
  add_constant,
  add_code,
  part_after_code,
  Seen,
  Record,
  text,
  opens,
  constant,
  code,
  ends,
  fault,
  judged,
  number_from,
  printable,
  takes_text,
  text_of,
  chunk_ruled,
  chunk_of,
  takes_constant,
  constant_ruled,
  constant_of,
  takes_code,
  code_ruled,
  code_line,
  code_of,
  end_of,
  record_of,
  all_named,
  constants_of,
  ending,
  follow,
  on_line,
  seen,
  reads,
  blank,
  load_image,
}
use Rattle.definition.proofs.Judged.{cond_elim}
use Rattle.image.specs.Answer.{number_of, refuses}
use Rattle.image_records.specs.declared.Reason.{Reason}
use Rattle.image_records.specs.declared.Reason.TheVariants.{TooLong, BadLine, OutOfOrder, BadField, TooMany, NoEnd, NoSuchChunk, ShortSlice}

abbrev LowFault : Record → Type 0
LowFault (text b) = Unit {0}
LowFault (opens a n) = Unit {0}
LowFault (constant k v) = Unit {0}
LowFault (code b) = Unit {0}
LowFault ends = Unit {0}
LowFault (fault n) = n ≤ 7

low_judged : (o r m : Bool) (x : Record) → LowFault x → LowFault (judged o r m x)
low_judged o r m x h =
    cond_elim LowFault o
    (λ _. cond_elim LowFault r (λ _. cond_elim LowFault m (λ _. h) (λ _. omega arith)) (λ _. omega arith))
    (λ _. omega arith)

low_text : (s : Seen) (b : List ℕ) → LowFault (text_of s b)
unfolding text_of
low_text s b = low_judged (takes_text s.part) (printable b) (ltb s.texts 256) (text b) tt

low_chunk : (s : Seen) (b : List ℕ) → LowFault (chunk_of s b)
unfolding chunk_of
low_chunk s b = low_judged true (chunk_ruled s b) (ltb s.chunks 64) (opens (get_or b 0 0) (number_from 0 (drop 1 b))) tt

low_constant : (s : Seen) (b : List ℕ) → LowFault (constant_of s b)
unfolding constant_of
low_constant s b = low_judged (takes_constant s.part) (constant_ruled s b) (ltb s.constants 256) (constant (get_or b 0 0) (number_from 0 (drop 1 b))) tt

low_code : (s : Seen) (b : List ℕ) → LowFault (code_of s b)
unfolding code_of code_line
low_code s b = low_judged (takes_code s.part) (code_ruled b) (leb (s.code + length b) 4096) (code b) tt

low_ends : (s : Seen) (b : List ℕ) → LowFault (end_of s b)
unfolding end_of
low_ends s b = low_judged (ltb 0 s.chunks) (eqb (length b) 0) true ends tt

low_record : (s : Seen) (t : ℕ) (b : List ℕ) → LowFault (record_of s t b)
unfolding record_of
low_record s t b =
    cond_elim LowFault (eqb t 1) (λ _. low_text s b)
    (λ _. cond_elim LowFault (eqb t 2) (λ _. low_chunk s b)
    (λ _. cond_elim LowFault (eqb t 3) (λ _. low_constant s b)
    (λ _. cond_elim LowFault (eqb t 4) (λ _. low_code s b)
    (λ _. cond_elim LowFault (eqb t 5) (λ _. low_ends s b) (λ _. omega arith)))))

abbrev LowLoad : Load → Type 0
LowLoad (image im) = Unit {0}
LowLoad (refused n k) = n ≤ 7

low_end : (im : Image) (last : Bool) → LowLoad (ending im last)
low_end im last =
    cond_elim LowLoad last
    (λ _. cond_elim LowLoad (all_named (length im.chunks) (constants_of im.chunks)) (λ _. tt) (λ _. omega arith))
    (λ _. omega arith)

low_follow : (im : Image) (k : ℕ) (last : Bool) (rest : Part → Image → Load) → ((p : Part) (i : Image) → LowLoad (rest p i)) → (r : Record) → LowFault
    r → LowLoad (follow im k last rest r)
low_follow im k last rest f (text b) h = f in_texts (add_text im b)
low_follow im k last rest f (opens a n) h = f in_constants (add_chunk im a n)
low_follow im k last rest f (constant d v) h = f in_constants (add_constant im d v)
low_follow im k last rest f (code b) h = f (part_after_code b) (add_code im b)
low_follow im k last rest f ends h = low_end im last
low_follow im k last rest f (fault n) h = h

low_line : (p : Part) (im : Image) (k : ℕ) (last : Bool) (rest : Part → Image → Load) → ((p : Part) (i : Image) → LowLoad (rest p i)) → (x : Line) →
    LowLoad (on_line p im k last rest x)
low_line p im k last rest f faulty = omega arith
low_line p im k last rest f (line t b) = low_follow im k last rest f (record_of (seen p im) t b) (low_record (seen p im) t b)

low_reads : (ls : List (List ℕ)) (left : List ℕ) (p : Part) (im : Image) (k : ℕ) → LowLoad (reads ls left p im k)
unfolding reads
low_reads [] left p im k = cond_elim LowLoad (is_empty left) (λ _. omega arith) (λ _. omega arith)
low_reads (l ∷ ls) left p im k =
    low_line p im (k + 1) (is_empty ls && is_empty left) (λ p' im'. reads ls left p' im' (k + 1)) (λ p' im'. low_reads ls left p' im' (k + 1)) (line_of l)

low_load : (bytes : List ℕ) → LowLoad (load_image bytes)
unfolding load_image
low_load bytes = cond_elim LowLoad (leb (length bytes) 65536) (λ _. low_reads (split bytes).lines (split bytes).left in_texts blank 0) (λ _. omega arith)

pub low_refusal : (bytes : List ℕ) (n k : ℕ) → load_image bytes ≡ refused n k → n ≤ 7
low_refusal bytes n k e = rw e at (low_load bytes)

-- ---- 9 is the number of a work slice that is too short
is_short : (f : Reason) → number_of f ≡ 9 → f ≡ ShortSlice
is_short TooLong e = absurd (omega arith)
is_short BadLine e = absurd (omega arith)
is_short OutOfOrder e = absurd (omega arith)
is_short BadField e = absurd (omega arith)
is_short TooMany e = absurd (omega arith)
is_short NoEnd e = absurd (omega arith)
is_short NoSuchChunk e = absurd (omega arith)
is_short ShortSlice e = refl

pub nine : (f : Reason) → f ≡ ShortSlice → number_of f ≡ 9
nine f e = ap number_of e

pub refused_by_nine : (f : Reason) (k : ℕ) → refuses (number_of f) k ≡ refuses 9 0 → (f ≡ ShortSlice) × (k ≡ 0)
refused_by_nine f k e = (is_short f (cc), cc)

-- for an answer that would be of two kinds
pub never : {A : Type 0} → ◌≡◌ {A = ℕ} 0 1 → A
never z = absurd (no z)
  where
    no : ◌≡◌ {A = ℕ} 0 1 → ⊥
    no z = omega arith
