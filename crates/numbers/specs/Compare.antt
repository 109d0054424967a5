-- The order of two numbers, and Less, LessEq, Greater, GreaterEq.
use Rattle.std.specs.Prelude.{Bool, true, false, cond, ℤ, Option, Some, None, Result, Ok, Err, ok_or}
use Rattle.std.specs.Int.Signed.{lt_z}
use Rattle.std.specs.declared.cmp.Ordering.{Ordering}
use Rattle.std.specs.declared.cmp.Ordering.TheVariants.{Less, Equal, Greater}
use Rattle.std.specs.Float.Ieee as Ieee
use Rattle.numbers.specs.declared.Number.{Number}
use Rattle.numbers.specs.declared.ComparisonFault.{ComparisonFault}
use Rattle.numbers.specs.declared.ComparisonFault.TheVariants.{Unordered, WrongKind}
use Rattle.numbers.specs.Scalars.{ScalarPair, integers, doubles, singles, mixed, scalar_of, same_kind}

unfoldable pub integer_order : ℤ → ℤ → Ordering
integer_order a b = cond (lt_z a b) Less (cond (lt_z b a) Greater Equal)

-- by IEEE 754; a NaN is neither less than, nor greater than, nor equal to anything
unfoldable pub float_order : Ieee.Float → Ieee.Float → Option Ordering
float_order a b = cond (Ieee.lt a b) (Some Less) (cond (Ieee.lt b a) (Some Greater) (cond (Ieee.eq a b) (Some Equal) None))

abbrev pub pair_order : ScalarPair → Result Ordering ComparisonFault
pair_order (integers k a b) = Ok (integer_order a b)
pair_order (doubles a b) = ok_or (float_order a b) Unordered
pair_order (singles a b) = ok_or (float_order a b) Unordered
pair_order mixed = Err WrongKind

abbrev pub compare_of : Number → Number → Result Ordering ComparisonFault
compare_of a b = pair_order (same_kind (scalar_of a) (scalar_of b))

-- "Ordered comparison: two of the same kind of the ten; a NaN is 40": l, e and g say what holds if the first is less, equal or greater
abbrev pub comparison_of : Bool → Bool → Bool → Result Ordering ComparisonFault → Result Bool ComparisonFault
comparison_of l e g (Ok Less) = Ok l
comparison_of l e g (Ok Equal) = Ok e
comparison_of l e g (Ok Greater) = Ok g
comparison_of l e g (Err fault) = Err fault

abbrev pub less_of : Number → Number → Result Bool ComparisonFault
less_of a b = comparison_of true false false (compare_of a b)

abbrev pub less_eq_of : Number → Number → Result Bool ComparisonFault
less_eq_of a b = comparison_of true true false (compare_of a b)

abbrev pub greater_of : Number → Number → Result Bool ComparisonFault
greater_of a b = comparison_of false false true (compare_of a b)

abbrev pub greater_eq_of : Number → Number → Result Bool ComparisonFault
greater_eq_of a b = comparison_of false true true (compare_of a b)
