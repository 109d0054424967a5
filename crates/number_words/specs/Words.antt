-- Numbers by their words: integers of at most 32 bits, UInts, and floats.
use Rattle.std.specs.Prelude.{◌≡◌, Bool, cond, List, [], ◌∷◌, ◌⊎◌, ℕ, suc, ◌+◌, ◌-◌, ◌≤◌, eqb, ltb, Float, ℤ, pos, neg_ℤ, Option, Some, None, Result, Ok, Err}
use Rattle.std.specs.Float.{Format}
use Rattle.std.specs.Float.Ieee as Ieee
use Rattle.std.specs.Float.Ieee.{to_bits, of_bits}
use Rattle.numbers.specs.declared.Number.TheVariants.{UInt}
use Rattle.numbers.specs.declared.Number.{Number}
use Rattle.numbers.specs.declared.NumberFault.{NumberFault}
use Rattle.numbers.specs.declared.NumberFault.TheVariants as number
use Rattle.numbers.specs.declared.IntKind.{IntKind}
use Rattle.numbers.specs.declared.IntKind.TheVariants.{I32, U32, U8, I8, U16, I16}
use Rattle.numbers.specs.Kinds.{int_kind_code, least_magnitude, greatest, as_kind, wrapping}
use Rattle.number_words.specs.declared.FloatOperation.{FloatOperation}
use Rattle.number_words.specs.declared.FloatOperation.TheVariants.{Add, Sub, Mul, Div}
use Rattle.number_words.specs.declared.NarrowKind.{NarrowKind}

-- how many numbers a kind has, and how many of them are negative
abbrev pub numbers_of : IntKind → NarrowKind
numbers_of k = record { numbers = least_magnitude k + suc (greatest k); negatives = least_magnitude k }

-- the integer kinds of at most 32 bits
abbrev pub narrow_kinds : List IntKind
narrow_kinds = I32 ∷ U32 ∷ U8 ∷ I8 ∷ U16 ∷ I16 ∷ []

-- the numbers of the kind that has this code, if it is among these; else none
abbrev pub kind_among : List IntKind → ℕ → Option NarrowKind
kind_among [] code = None
kind_among (k ∷ ks) code = cond (eqb code (int_kind_code k)) (Some (numbers_of k)) (kind_among ks code)

unfoldable pub narrow_kind : ℕ → Option NarrowKind
narrow_kind code = kind_among narrow_kinds code

-- the highest bit turned, where the kind has a sign
abbrev pub turn : NarrowKind → ℕ → ℕ
turn n p = cond (ltb p (n.numbers - n.negatives)) (p + n.negatives) (p - (n.numbers - n.negatives))

-- a number by its sign and how far it is from zero
abbrev pub signed : Bool → ℕ → ℤ
signed s m = cond s (neg_ℤ (pos m)) (pos m)

-- the numbers of the kind k, at most 2^32
pub record IsOf (k : IntKind) (n : NarrowKind) : Type 0 where
  pub negatives : n.negatives ≡ least_magnitude k
  pub numbers : n.numbers ≡ least_magnitude k + suc (greatest k)
  pub balanced : (n.negatives ≡ 0) ⊎ (n.negatives + n.negatives ≡ n.numbers)
  pub few : n.numbers ≤ 4294967296

-- an answer in words, as one of the numbers of the kind
abbrev pub answer_in : IntKind → Option ℕ → Result Number NumberFault
answer_in k (Some w) = Ok (as_kind k (wrapping k (pos w)))
answer_in k None = Err number.Overflow

-- the same for UInt
abbrev pub wide_answer : Option ℕ → Result Number NumberFault
wide_answer (Some w) = Ok (UInt w)
wide_answer None = Err number.Overflow

-- the operation of IEEE 754
abbrev pub operation_of : FloatOperation → Format → Float → Float → Float
operation_of Add = Ieee.add
operation_of Sub = Ieee.sub
operation_of Mul = Ieee.mul
operation_of Div = Ieee.div

-- the word of a float: its bits, a NaN's one word included, from which the float comes back
pub record FloatWord (f : Format) (x : Float) (w : ℕ) : Type 0 where
  pub word : w ≡ to_bits f x
  pub back : of_bits f w ≡ x
