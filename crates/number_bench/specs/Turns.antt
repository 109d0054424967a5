-- What the loops compute: so many turns of one operation of the definition, each on what the turn before answered.
use Rattle.std.specs.Prelude.{◌≡◌, ℕ, zero, suc, ◌+◌, ◌%◌, ◌^◌, ◌<◌, cond, ◌⊎◌, pos, Bool, Result, Ok, Err, unwrap_or}
use Rattle.numbers.specs.declared.Number.{Number}
use Rattle.numbers.specs.declared.Number.TheVariants.{Int}
use Rattle.numbers.specs.declared.NumberFault.{NumberFault}
use Rattle.numbers.specs.declared.ComparisonFault.{ComparisonFault}
use Rattle.numbers.specs.declared.CastTarget.TheVariants.{ToInteger, ToFloat}
use Rattle.numbers.specs.declared.IntKind.TheVariants.{I64}
use Rattle.numbers.specs.Compare.{less_of}
use Rattle.numbers.specs.Casts.{cast_of}
use Rattle.number_codes.specs.Payloads.{payload_of, number_of_payload}

-- the number of a kind's code and a payload; the Int 0 where the code is no number's
abbrev pub number_at : ℕ → ℕ → Number
number_at kind word = unwrap_or (number_of_payload kind word) (Int (pos 0))

-- a fault stays one
abbrev pub onto : (Number → Result Number NumberFault) → Result Number NumberFault → Result Number NumberFault
onto f (Ok x) = f x
onto f (Err fault) = Err fault

unfoldable pub turns : (Number → Result Number NumberFault) → ℕ → Number → Result Number NumberFault
turns f zero x = Ok x
turns f (suc n) x = onto f (turns f n x)

-- all n turns from x were made, and came to a number, whose payload is left
pub record Ends (f : Number → Result Number NumberFault) (n : ℕ) (x : Number) (r left : ℕ) : Type 0 where
  pub all : r ≡ n
  pub number : Number
  pub turned : turns f n x ≡ Ok number
  pub payload : left ≡ payload_of number

-- the turn after r of them is a fault, and what was lent is left as it was
pub record Stops (f : Number → Result Number NumberFault) (n : ℕ) (x : Number) (r lent left : ℕ) : Type 0 where
  pub early : r < n
  pub number : Number
  pub turned : turns f r x ≡ Ok number
  pub fault : (y : Number) → f number ≡ Ok y → ⊥
  pub kept : left ≡ lent

-- what an operation answers is what f does
abbrev pub Computes : (Number → Number → Result Number NumberFault → Type 0) → (Number → Number → Result Number NumberFault) → Type 0
Computes answers f = (x y : Number) (r : Result Number NumberFault) → answers x y r → r ≡ f x y

-- what a loop of n turns gives that made r of them
abbrev pub Gives : (Number → Result Number NumberFault) → ℕ → Number → ℕ → ℕ → ℕ → Type 0
Gives f n x r lent left = Ends f n x r left ⊎ Stops f n x r lent left

-- ---- the loops of Less and Cast, which no fault ends: so many steps
unfoldable pub steps : {A : Type 0} → (A → A) → ℕ → A → A
steps f zero a = a
steps f (suc n) a = f (steps f n a)

abbrev pub pace_of : Result Bool ComparisonFault → ℕ
pace_of (Ok b) = cond b 3 1
pace_of (Err fault) = 1

-- by threes while the count, as a number of the kind, is less than the bound, then by ones
abbrev pub count_on : ℕ → Number → ℕ → ℕ
count_on kind bound a = (a + pace_of (less_of (number_at kind a) bound)) % 2 ^ 64

abbrev pub value_or : Result Number NumberFault → Number → Number
value_or (Ok y) x = y
value_or (Err fault) x = x

-- to Float and back to Int
abbrev pub back : Number → Number
back x = value_or (cast_of (ToInteger I64) x) x

abbrev pub there_and_back : Number → Number
there_and_back x = back (value_or (cast_of ToFloat x) x)
