-- What the code keeps of the whole part q of a float's magnitude: itself below 2^64, its low 64 bits below 2^127; and of a float made whole.
use Rattle.std.specs.Prelude.{◌≡◌, ℕ, ◌%◌, ◌^◌, false, cond, nat_lt, ℤ, Option, Some, None}
use Rattle.numbers.specs.declared.IntKind.{IntKind}
use Rattle.numbers.specs.Kinds.{in_range, low_bits}
use Rattle.number_operands.specs.Operands.{value_of}
use Rattle.number_casts.specs.declared.WholePart.{WholePart}
use Rattle.number_casts.specs.declared.WholePart.TheVariants.{Below64, Below127}
use Rattle.number_casts.specs.declared.Truncated.{Truncated}
use Rattle.number_casts.specs.declared.Truncated.TheVariants.{Integer, LowWord}

unfoldable pub whole_part_of : ℕ → Option WholePart
whole_part_of q = cond (nat_lt q (2 ^ 64)) (Some (Below64 q)) (cond (nat_lt q (2 ^ 127)) (Some (Below127 (q % 2 ^ 64))) None)

-- it is z, or it is the low 64 bits of z, which is past every kind's range
abbrev pub Truncates : Truncated → ℤ → Type 0
Truncates (Integer n) z = value_of n ≡ z
Truncates (LowWord w) z = (w ≡ low_bits 64 z) × ((k : IntKind) → in_range k z ≡ false)
