-- Cast: ten targets from ten kinds. Quoted is document 01, and document 02 where it says so.
use Rattle.std.specs.Prelude.{◌≡◌, true, List, [], ◌∷◌, ℤ, eqb, Result, Ok, Err}
use Rattle.std.specs.Float.Ieee as Ieee
use Rattle.std.specs.Float.{binary64}
use Rattle.float_bits.specs.Nearest.{nearest_binary32}
use Rattle.numbers.specs.declared.Number.{Number}
use Rattle.numbers.specs.declared.Number.TheVariants.{Int, Float, SFloat}
use Rattle.numbers.specs.declared.NumberFault.{NumberFault}
use Rattle.numbers.specs.declared.NumberFault.TheVariants.{InvalidCast}
use Rattle.numbers.specs.declared.IntKind.{IntKind}
use Rattle.numbers.specs.declared.IntKind.TheVariants.{I64, U64, I32, U32, U8, I8, U16, I16}
use Rattle.numbers.specs.declared.CastTarget.{CastTarget}
use Rattle.numbers.specs.declared.CastTarget.TheVariants.{ToInteger, ToFloat, ToSFloat}
use Rattle.numbers.specs.Kinds.{int_kind_code, in_range, as_kind, wrapping}
use Rattle.numbers.specs.Scalars.{Scalar, integer, double, single, scalar_of}
use Rattle.numbers.specs.Answers.{pick}

-- "Targets: 0 Int, 1 Float, 2 UInt, 3 SFloat, 4 SUInt, 5 SInt, 6 BByte, 7 BSByte, 8 Byte, 9 SByte"
abbrev pub cast_targets : List CastTarget
cast_targets =
    ToInteger I64
    ∷ ToFloat
    ∷ ToInteger U64
    ∷ ToSFloat
    ∷ ToInteger U32
    ∷ ToInteger I32
    ∷ ToInteger U16
    ∷ ToInteger I16
    ∷ ToInteger U8
    ∷ ToInteger I8
    ∷ []

-- "A float becomes whole by truncation, NaN as 0, held to -2^127 .. 2^127 - 1"; of an integer, a UInt among them, "Integer targets take the exact
-- value" (document 02, E1)
abbrev pub truncated : Scalar → ℤ
truncated (integer k z) = z
truncated (double x) = Ieee.to_signed 127 x
truncated (single x) = Ieee.to_signed 127 x

-- "To Float: nearest even", and of a UInt "Float targets round as for Int" (document 02, E1); an SFloat is a Float as it stands
abbrev pub as_float : Scalar → Ieee.Float
as_float (integer k z) = Ieee.of_int binary64 z
as_float (double x) = x
as_float (single x) = x

-- "Target 0 then keeps the low 64 bits as a signed number; every other integer target gives 42 outside its range", and of a UInt "target 0 keeps the
-- low 64 bits as a signed number; others are 42 out of range" (document 02, E1)
unfoldable pub cast_integer : IntKind → ℤ → Result Number NumberFault
cast_integer k z = pick (eqb (int_kind_code k) 1) (Ok (Int (wrapping I64 z))) (pick (in_range k z) (Ok (as_kind k z)) (Err InvalidCast))

-- z is the number made whole, x the number as an f64. "To SFloat: first to f64, then to f32, two roundings"
abbrev pub cast_to : CastTarget → ℤ → Ieee.Float → Result Number NumberFault
cast_to (ToInteger k) z x = cast_integer k z
cast_to ToFloat z x = Ok (Float x)
cast_to ToSFloat z x = Ok (SFloat (nearest_binary32 x))

-- "From any of the ten kinds except UInt", and "From now on UInt casts to all ten targets" (document 02, E1): from any of the ten. Of an integer the
-- value counts, and not the kind that it comes with.
unfoldable pub cast_of : CastTarget → Number → Result Number NumberFault
cast_of t a = cast_to t (truncated (scalar_of a)) (as_float (scalar_of a))

-- so for every integer of the eight kinds there is one law
abbrev pub CastByValue : Type 0
CastByValue = (t : CastTarget) (k : IntKind) (z : ℤ) → in_range k z ≡ true → cast_of t (as_kind k z) ≡ cast_to t z (Ieee.of_int binary64 z)
