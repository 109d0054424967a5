-- A number as the integer or the IEEE 754 value that it stands for, and two numbers of one kind.
use Rattle.std.specs.Prelude.{Bool, true, false, ℤ, pos, eqb}
use Rattle.std.specs.Float.Ieee as Ieee
use Rattle.numbers.specs.declared.Number.{Number}
use Rattle.numbers.specs.declared.Number.TheVariants.{Int, UInt, SInt, SUInt, Float, SFloat, Byte, SByte, BByte, BSByte}
use Rattle.numbers.specs.declared.IntKind.{IntKind}
use Rattle.numbers.specs.declared.IntKind.TheVariants.{I64, U64, I32, U32, U8, I8, U16, I16}
use Rattle.numbers.specs.Kinds.{int_kind_code}

pub data Scalar : Type 0 where
  integer : IntKind → ℤ → Scalar
  double : Ieee.Float → Scalar
  single : Ieee.Float → Scalar

abbrev pub scalar_of : Number → Scalar
scalar_of (Int z) = integer I64 z
scalar_of (UInt n) = integer U64 (pos n)
scalar_of (SInt z) = integer I32 z
scalar_of (SUInt n) = integer U32 (pos n)
scalar_of (Float x) = double x
scalar_of (SFloat x) = single x
scalar_of (Byte n) = integer U8 (pos n)
scalar_of (SByte z) = integer I8 z
scalar_of (BByte n) = integer U16 (pos n)
scalar_of (BSByte z) = integer I16 z

-- "two of the same kind out of ten", or two of different kinds
pub data ScalarPair : Type 0 where
  integers : IntKind → ℤ → ℤ → ScalarPair
  doubles : Ieee.Float → Ieee.Float → ScalarPair
  singles : Ieee.Float → Ieee.Float → ScalarPair
  mixed : ScalarPair

abbrev pub pick_pair : Bool → ScalarPair → ScalarPair → ScalarPair
pick_pair true a b = a
pick_pair false a b = b

abbrev pub same_kind : Scalar → Scalar → ScalarPair
same_kind (integer j a) (integer k b) = pick_pair (eqb (int_kind_code j) (int_kind_code k)) (integers j a b) mixed
same_kind (integer j a) (double b) = mixed
same_kind (integer j a) (single b) = mixed
same_kind (double a) (integer k b) = mixed
same_kind (double a) (double b) = doubles a b
same_kind (double a) (single b) = mixed
same_kind (single a) (integer k b) = mixed
same_kind (single a) (double b) = mixed
same_kind (single a) (single b) = singles a b
