-- The numbers that document 01 gives to the answers of this crate.
use Rattle.std.specs.Prelude.{ℕ, Bool, true, false, Result, Ok, Err}
use Rattle.numbers.specs.declared.Number.{Number}
use Rattle.numbers.specs.declared.NumberFault.{NumberFault}
use Rattle.numbers.specs.declared.NumberFault.TheVariants.{Overflow, ZeroDivisor, WrongKind, InvalidCast}
use Rattle.numbers.specs.declared.ComparisonFault.{ComparisonFault}
use Rattle.numbers.specs.declared.ComparisonFault.TheVariants as comparison

abbrev pub pick : Bool → Result Number NumberFault → Result Number NumberFault → Result Number NumberFault
pick true a b = a
pick false a b = b

-- "outside the kind's range is 37; a zero divisor is 38", "39 a kind the operation does not serve", "anything else is 42" of a cast
abbrev pub number_of_fault : NumberFault → ℕ
number_of_fault Overflow = 37
number_of_fault ZeroDivisor = 38
number_of_fault WrongKind = 39
number_of_fault InvalidCast = 42

-- and 0, which is no fault's number, for a value
abbrev pub answer_number : Result Number NumberFault → ℕ
answer_number (Ok n) = 0
answer_number (Err fault) = number_of_fault fault

-- "Ordered comparison: two of the same kind of the ten; a NaN is 40"
abbrev pub number_of_comparison_fault : ComparisonFault → ℕ
number_of_comparison_fault comparison.Unordered = 40
number_of_comparison_fault comparison.WrongKind = 39

abbrev pub comparison_fault : Result Bool ComparisonFault → ℕ
comparison_fault (Ok b) = 0
comparison_fault (Err fault) = number_of_comparison_fault fault
