-- The worked values of documents 01 and 02, as one table: what is asked, and the answer that the documents give.
use Rattle.std.specs.Prelude.{ℕ, ◌+◌, ◌^◌, ◌-◌, ◌*◌, ◌≡◌, refl, true, false, List, [], ◌∷◌, map, pos, negsuc, Result, Ok, Err}
use Rattle.std.specs.Float.{nan, fin}
use Rattle.std.specs.Float.Ieee.{round, of_int, to_signed}
use Rattle.float_bits.specs.Nearest.{nearest_binary32}
use Rattle.numbers.specs.declared.Number.{Number}
use Rattle.numbers.specs.declared.Number.TheVariants.{Int, UInt, SByte, Float, SFloat, Byte}
use Rattle.numbers.specs.declared.NumberFault.{NumberFault}
use Rattle.numbers.specs.declared.IntKind.TheVariants.{I64, U64, U32, U8}
use Rattle.numbers.specs.declared.CastTarget.{CastTarget}
use Rattle.numbers.specs.declared.CastTarget.TheVariants.{ToInteger, ToFloat, ToSFloat}
use Rattle.numbers.specs.Kinds.{wrapping}
use Rattle.numbers.specs.Answers.{number_of_fault}
use Rattle.numbers.specs.Arithmetic.{add_of, div_of, negate_of, checked, checked_div}
use Rattle.numbers.specs.Casts.{cast_of, cast_integer}

pub data Operation : Type 0 where
  add : Number → Number → Operation
  div : Number → Number → Operation
  negate : Number → Operation
  cast : Number → CastTarget → Operation

abbrev pub answer_of : Operation → Result Number NumberFault
answer_of (add a b) = add_of a b
answer_of (div a b) = div_of a b
answer_of (negate a) = negate_of a
answer_of (cast a t) = cast_of t a

-- an answer as the documents write it: a value, or the number of a fault
pub data Outcome : Type 0 where
  value : Number → Outcome
  fault : ℕ → Outcome

abbrev pub outcome_of : Result Number NumberFault → Outcome
outcome_of (Ok n) = value n
outcome_of (Err f) = fault (number_of_fault f)

abbrev pub Row : Type 0
Row = Operation × Outcome

-- "Int max + 1, 37; Int min / 0, 38; Int min / -1, 37; Negate SByte -128, -128; Float 10^19 to Int, -8446744073709551616; NaN to Int, 0;
-- Float 2^127 to Int, -1; Float -0.5 to UInt, 0; Int 255 to Byte, 255; Int 256 to Byte, 42; Int 1152921573326323713 to SFloat, 2^60;
-- UInt 1 to Int, 42", of which two change: "The proved value for UInt 1 to Int becomes 1" (document 02, E1), "The proved value for SByte -128 becomes
-- 37" (document 02, E5). `negsuc n` is -(n + 1); `fin s m e` is the float m * 2^e, and `ten_19` below shows that the fifth row's is 10^19.
-- Behind them, where a UInt has no Int of its value: "Integer targets take the exact value; target 0 keeps the low 64 bits as a signed number; others
-- are 42 out of range. Float targets round as for Int" (document 02, E1). One rounding would make the fifth of these 2^63 + 2^40.
-- Last, at the ends of the range: "like any other result out of range" (document 02, E5).
abbrev pub table : List Row
table =
    (add (Int (pos (2 ^ 63 - 1))) (Int (pos 1)), fault 37)
    ∷ (div (Int (negsuc (2 ^ 63 - 1))) (Int (pos 0)), fault 38)
    ∷ (div (Int (negsuc (2 ^ 63 - 1))) (Int (negsuc 0)), fault 37)
    ∷ (negate (SByte (negsuc 127)), fault 37)
    ∷ (cast (Float (fin false 19073486328125 (pos 19))) (ToInteger I64), value (Int (negsuc 8446744073709551615)))
    ∷ (cast (Float nan) (ToInteger I64), value (Int (pos 0)))
    ∷ (cast (Float (fin false 1 (pos 127))) (ToInteger I64), value (Int (negsuc 0)))
    ∷ (cast (Float (fin true 1 (negsuc 0))) (ToInteger U64), value (UInt 0))
    ∷ (cast (Int (pos 255)) (ToInteger U8), value (Byte 255))
    ∷ (cast (Int (pos 256)) (ToInteger U8), fault 42)
    ∷ (cast (Int (pos 1152921573326323713)) ToSFloat, value (SFloat (fin false 1 (pos 60))))
    ∷ (cast (UInt 1) (ToInteger I64), value (Int (pos 1)))
    ∷ (cast (UInt (2 ^ 63)) (ToInteger I64), value (Int (negsuc (2 ^ 63 - 1))))
    ∷ (cast (UInt (2 ^ 64 - 1)) (ToInteger U64), value (UInt (2 ^ 64 - 1)))
    ∷ (cast (UInt (2 ^ 64 - 1)) (ToInteger U32), fault 42)
    ∷ (cast (UInt (2 ^ 64 - 1)) ToFloat, value (Float (fin false 1 (pos 64))))
    ∷ (cast (UInt (2 ^ 63 + 2 ^ 39 + 1)) ToSFloat, value (SFloat (fin false 1 (pos 63))))
    ∷ (negate (SByte (negsuc 126)), value (SByte (pos 127)))
    ∷ (negate (SByte (pos 127)), value (SByte (negsuc 126)))
    ∷ (negate (Int (negsuc (2 ^ 63 - 1))), fault 37)
    ∷ []

-- every row: the answer is the one that the documents give
pub worked : map (λ (r : Row). outcome_of (answer_of r.0)) table ≡ map (λ (r : Row). r.1) table
unfolding checked checked_div wrapping cast_integer cast_of negate_of to_signed of_int nearest_binary32 round
worked = refl

ten_19 : (19073486328125 * 2 ^ 19) ≡ 10 ^ 19
ten_19 = refl
