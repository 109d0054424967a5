-- What the code's forms of a number stand for: an integer is a sign and a magnitude there.
use Rattle.std.specs.Prelude.{cond, ℤ, pos, neg_ℤ, Option, Some, None}
use Rattle.numbers.specs.Scalars.{Scalar, integer, double, single, ScalarPair, integers, doubles, singles, mixed}
use Rattle.number_operands.specs.declared.SignMagnitude.{SignMagnitude}
use Rattle.number_operands.specs.declared.Operand.{Operand}
use Rattle.number_operands.specs.declared.Operand.TheVariants.{Integer, Double, Single}
use Rattle.number_operands.specs.declared.OperandPair.{OperandPair}
use Rattle.number_operands.specs.declared.OperandPair.TheVariants.{Integers, Doubles, Singles}

abbrev pub value_of : SignMagnitude → ℤ
value_of x = cond x.negative (neg_ℤ (pos x.magnitude)) (pos x.magnitude)

abbrev pub operand_scalar : Operand → Scalar
operand_scalar (Integer k x) = integer k (value_of x)
operand_scalar (Double x) = double x
operand_scalar (Single x) = single x

abbrev pub operand_pair : Option OperandPair → ScalarPair
operand_pair (Some (Integers k a b)) = integers k (value_of a) (value_of b)
operand_pair (Some (Doubles a b)) = doubles a b
operand_pair (Some (Singles a b)) = singles a b
operand_pair None = mixed
