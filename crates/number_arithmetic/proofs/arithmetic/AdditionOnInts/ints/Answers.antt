-- By the law of every kind with a sign.
use Rattle.std.proofs.Common.{refl, ◌+ℤ◌, w64, to_z-of_z}
use Rattle.numbers.specs.declared.IntKind.TheVariants.{I64}
use Rattle.number_arithmetic.proofs.Checked.{kind_checked}
use Rattle.number_arithmetic.proofs.arithmetic.AdditionOnInts.ints.Goals as goal

pub returns : goal.returns
returns c =
    kind_checked I64 w64 refl refl (λ i. to_z-of_z {w = w64} c.ranges.x i +ℤ to_z-of_z {w = w64} c.ranges.y i) c.checked_add.result c.checked_add.ensures c.map.result
    c.map.ensures.cases c.ok_or.ensures.value
