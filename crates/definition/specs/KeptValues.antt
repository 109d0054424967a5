-- What every value of a run keeps. A test of heads that the constants of an image pass, and all that an instruction can make, is passed by
-- every head of every run of the image, at any depth. One theorem; what is said of numbers, Chars, texts and chunks is an instance.
use Rattle.std.specs.Prelude.{◌≡◌, List, [], ◌∷◌, Bool, true, ℕ, ◌≤◌, ◌<◌, ltb, length, Ok}
use Rattle.std.proofs.Math.Option.{some}
use Rattle.std.specs.Float.{binary32, binary64}
use Rattle.std.specs.Float.Ieee.{fits}
use Rattle.numbers.specs.declared.Number.{Number}
use Rattle.numbers.specs.declared.CastTarget.{CastTarget}
use Rattle.numbers.specs.Kinds.{in_range}
use Rattle.numbers.specs.Scalars.{Scalar, integer, double, single, scalar_of}
use Rattle.numbers.specs.Arithmetic.{add_of, sub_of, mul_of, div_of, negate_of}
use Rattle.numbers.specs.Casts.{cast_of}
use Rattle.definition.specs.Image.{Constant, Image, chunk_at}
use Rattle.definition.specs.Lines.{image, load_image}
use Rattle.definition.specs.Lines as Lines
use Rattle.definition.specs.Value.{Head, null, num, bool, str, char, arr, tuple, function, ok, error, err, closure, Value, Values, node, none, more, list}
use Rattle.definition.specs.Constants.{constant_head, constant_at, function_at}
use Rattle.definition.specs.Shape.{shape, scalar}
use Rattle.definition.specs.Trees.{trees}
use Rattle.definition.specs.Operation.{new}
use Rattle.definition.specs.Arrays.{arr_len}
use Rattle.definition.specs.State.{Frame, State, value}
use Rattle.definition.specs.Run.{Run, initial, at, IsRun}

-- every element of a list has R
pub data All {A : Type 0} (R : A → Type 0) : List A → Type 0 where
  nil : All R []
  cons : {x : A} {xs : List A} → R x → All R xs → All R (x ∷ xs)

-- the head of a tree passes, it has at most 1,024 parts, and so on in its parts, to any depth
mutual
  pub data Throughout (test : Head → Bool) : Value → Type 0 where
    whole : {h : Head} {vs : Values} → test h ≡ true → length (list vs) ≤ 1024 → Throughouts test vs → Throughout test (node h vs)

  pub data Throughouts (test : Head → Bool) : Values → Type 0 where
    nothing : Throughouts test none
    each : {v : Value} {vs : Values} → Throughout test v → Throughouts test vs → Throughouts test (more v vs)

-- a state all of whose values pass, with the mosts of document 01 for operands and locals. Of a frame, the function that it runs.
pub record Holds (test : Head → Bool) (s : State Value ℕ) : Type 0 where
  pub operands : All (Throughout test) s.operands
  pub locals : All (Throughout test) s.locals
  pub globals : All (Throughout test) s.globals
  pub frames : All (λ (f : Frame). test (function f.chunk) ≡ true) s.frames
  pub few_operands : length s.operands ≤ 256
  pub few_locals : length s.locals ≤ 1024

-- The test is passed by each constant of the image, by all that an instruction can make of what passes it, and by the function that the top
-- and each call runs. A closure is made of a chunk that a Function constant names. An Arr has at most as many elements as there are
-- operands, so that its length is far below an Int's greatest.
pub record Closed (im : Image) (test : Head → Bool) : Type 0 where
  pub top : test (function 0) ≡ true
  pub constants : (c n : ℕ) (k : Constant) → constant_at (chunk_at im c).constants n ≡ some k → test (constant_head k) ≡ true
  pub closures : (c n d start : ℕ) → function_at (chunk_at im c).constants n ≡ some d → test (closure d start) ≡ true
  pub called : (c start : ℕ) → test (closure c start) ≡ true → test (function c) ≡ true
  pub nulls : test null ≡ true
  pub bools : (b : Bool) → test (bool b) ≡ true
  pub lengths : (vs : List Value) (x : Number) → length vs ≤ 1024 → arr_len (shape arr vs) ≡ new (scalar (num x)) → test (num x) ≡ true
  pub sums : (a b x : Number) → test (num a) ≡ true → test (num b) ≡ true → add_of a b ≡ Ok x → test (num x) ≡ true
  pub differences : (a b x : Number) → test (num a) ≡ true → test (num b) ≡ true → sub_of a b ≡ Ok x → test (num x) ≡ true
  pub products : (a b x : Number) → test (num a) ≡ true → test (num b) ≡ true → mul_of a b ≡ Ok x → test (num x) ≡ true
  pub quotients : (a b x : Number) → test (num a) ≡ true → test (num b) ≡ true → div_of a b ≡ Ok x → test (num x) ≡ true
  pub negatives : (a x : Number) → test (num a) ≡ true → negate_of a ≡ Ok x → test (num x) ≡ true
  pub casts : (t : CastTarget) (a x : Number) → test (num a) ≡ true → cast_of t a ≡ Ok x → test (num x) ≡ true
  pub arrs : test arr ≡ true
  pub tuples : test tuple ≡ true
  pub oks : test ok ≡ true
  pub errors : test error ≡ true
  pub errs : test err ≡ true

-- every state of the run, and the value that it ends in
pub record RunKeeps (test : Head → Bool) (r : Run Value ℕ) : Type 0 where
  pub states : (k : ℕ) → k < length r.states → Holds test (at trees r.states k)
  pub result : (n : ℕ) (v : Value) (cells : ℕ) → r.ending ≡ value n v cells → Throughout test v

abbrev pub ValuesKept : Type 0
ValuesKept =
    (im : Image) (test : Head → Bool) → Closed im test → (budget : ℕ) (r : Run Value ℕ) → IsRun trees im budget (initial trees) r → RunKeeps test r

-- ---- The instance: a head as document 01 has them. An integer lies in its kind's range, from the least to the greatest; a Float is a value
-- of binary64 and an SFloat one of binary32. A Char is a Unicode scalar. A Str names a text of the image, a Function and a Closure a chunk.
abbrev pub scalar_fits : Scalar → Bool
scalar_fits (integer k z) = in_range k z
scalar_fits (double x) = fits binary64 x
scalar_fits (single x) = fits binary32 x

abbrev pub well_formed : Image → Head → Bool
well_formed im null = true
well_formed im (num x) = scalar_fits (scalar_of x)
well_formed im (bool b) = true
well_formed im (str t) = ltb t (length im.texts)
well_formed im (char c) = Lines.scalar c
well_formed im arr = true
well_formed im tuple = true
well_formed im (function c) = ltb c (length im.chunks)
well_formed im ok = true
well_formed im error = true
well_formed im err = true
well_formed im (closure c start) = ltb c (length im.chunks)

-- so it is in every run of every image that loads
abbrev pub ValuesWellFormed : Type 0
ValuesWellFormed =
    (bytes : List ℕ) (im : Image) → load_image bytes ≡ image im → (budget : ℕ) (r : Run Value ℕ) → IsRun trees im budget (initial trees) r
    → RunKeeps (well_formed im) r
