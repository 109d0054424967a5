-- Add, Sub, Mul, Div and Negate. What an integer kind does is one definition over ℤ, with the kind as its argument. Quoted is document 01, and
-- document 02 where it says so.
use Rattle.std.specs.Prelude.{◌≡◌, true, ℤ, neg_ℤ, nat_abs, ◌+ℤ◌, ◌-ℤ◌, ◌*ℤ◌, eqb, Result, Ok, Err}
use Rattle.std.specs.Int.Signed.{quot_z}
use Rattle.std.specs.Float.Ieee as Ieee
use Rattle.std.specs.Float.{Format, binary32, binary64}
use Rattle.numbers.specs.declared.Number.{Number}
use Rattle.numbers.specs.declared.Number.TheVariants.{Float, SFloat}
use Rattle.numbers.specs.declared.NumberFault.{NumberFault}
use Rattle.numbers.specs.declared.NumberFault.TheVariants.{Overflow, ZeroDivisor, WrongKind}
use Rattle.numbers.specs.declared.IntKind.{IntKind}
use Rattle.numbers.specs.Kinds.{is_signed, least, in_range, as_kind}
use Rattle.numbers.specs.Scalars.{Scalar, integer, double, single, ScalarPair, integers, doubles, singles, mixed, scalar_of, same_kind}
use Rattle.numbers.specs.Answers.{pick}

-- "Integers: outside the kind's range is 37"
unfoldable pub checked : IntKind → ℤ → Result Number NumberFault
checked k z = pick (in_range k z) (Ok (as_kind k z)) (Err Overflow)

-- "a zero divisor is 38, judged first; division truncates"
unfoldable pub checked_div : IntKind → ℤ → ℤ → Result Number NumberFault
checked_div k a b = pick (eqb (nat_abs b) 0) (Err ZeroDivisor) (checked k (quot_z a b))

-- "Add, Sub, Mul, Div take two of the same kind out of ten": f on integers of one kind, and g, "one IEEE operation rounded once, to nearest
-- even", on floats of one format; "39 a kind the operation does not serve"
abbrev pub arithmetic : (IntKind → ℤ → ℤ → Result Number NumberFault) → (Format → Ieee.Float → Ieee.Float → Ieee.Float) → ScalarPair → Result Number NumberFault
arithmetic f g (integers k a b) = f k a b
arithmetic f g (doubles a b) = Ok (Float (g binary64 a b))
arithmetic f g (singles a b) = Ok (SFloat (g binary32 a b))
arithmetic f g mixed = Err WrongKind

abbrev pub add_of : Number → Number → Result Number NumberFault
add_of a b = arithmetic (λ k x y. checked k (x +ℤ y)) Ieee.add (same_kind (scalar_of a) (scalar_of b))

abbrev pub sub_of : Number → Number → Result Number NumberFault
sub_of a b = arithmetic (λ k x y. checked k (x -ℤ y)) Ieee.sub (same_kind (scalar_of a) (scalar_of b))

abbrev pub mul_of : Number → Number → Result Number NumberFault
mul_of a b = arithmetic (λ k x y. checked k (x *ℤ y)) Ieee.mul (same_kind (scalar_of a) (scalar_of b))

abbrev pub div_of : Number → Number → Result Number NumberFault
div_of a b = arithmetic checked_div Ieee.div (same_kind (scalar_of a) (scalar_of b))

-- "Negate serves Int, SInt, BSByte, SByte, Float, SFloat", and "Negate of the least Int, SInt, BSByte or SByte shall stop with 37, like any other
-- result out of range" (document 02, E5)
abbrev pub negate_scalar : Scalar → Result Number NumberFault
negate_scalar (integer k z) = pick (is_signed k) (checked k (neg_ℤ z)) (Err WrongKind)
negate_scalar (double x) = Ok (Float (Ieee.neg x))
negate_scalar (single x) = Ok (SFloat (Ieee.neg x))

unfoldable pub negate_of : Number → Result Number NumberFault
negate_of a = negate_scalar (scalar_of a)

-- so for every kind with a sign there is one law: the least number of the kind is 37, any other has its negative in the kind
abbrev pub NegateInRange : Type 0
NegateInRange = (k : IntKind) → is_signed k ≡ true →
    (negate_of (as_kind k (least k)) ≡ Err Overflow)
    × ((z : ℤ) → in_range k z ≡ true → (z ≡ least k → ⊥) → negate_of (as_kind k z) ≡ Ok (as_kind k (neg_ℤ z)))
