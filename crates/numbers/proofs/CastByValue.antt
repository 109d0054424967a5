-- A cast of an integer reads its value, whichever of the eight kinds it has: by computing, for each kind and each sort of target. Assumes nothing.
use mathlib.Core.Path.{◌≡◌, refl}
use Prim.Native.Nat.{ℕ}
use lib.IntN.{ℤ, pos, negsuc}
use lib.Ieee.{binary64, of_int}
use Rattle.numbers.specs.declared.CastTarget.{CastTarget}
use Rattle.numbers.specs.declared.CastTarget.TheVariants.{ToInteger, ToFloat, ToSFloat}
use Rattle.numbers.specs.declared.IntKind.{IntKind}
use Rattle.numbers.specs.declared.IntKind.TheVariants.{I64, U64, I32, U32, U8, I8, U16, I16}
use Rattle.numbers.specs.Kinds.{as_kind}
use Rattle.numbers.specs.Casts.{cast_to, cast_of, CastByValue}
use Rattle.numbers.proofs.Ranges.{no_negative}

abbrev Cast : CastTarget → IntKind → ℤ → Type 0
Cast t k z = cast_of t (as_kind k z) ≡ cast_to t z (of_int binary64 z)

-- with a sign the number is the value, without one it is where the value is not negative
signed : (t : CastTarget) (z : ℤ) → Cast t I64 z × Cast t I32 z × Cast t I8 z × Cast t I16 z
unfolding cast_of
signed (ToInteger k) z = (refl, refl, refl, refl)
signed ToFloat z = (refl, refl, refl, refl)
signed ToSFloat z = (refl, refl, refl, refl)

unsigned : (t : CastTarget) (n : ℕ) → Cast t U64 (pos n) × Cast t U32 (pos n) × Cast t U8 (pos n) × Cast t U16 (pos n)
unfolding cast_of
unsigned (ToInteger k) n = (refl, refl, refl, refl)
unsigned ToFloat n = (refl, refl, refl, refl)
unsigned ToSFloat n = (refl, refl, refl, refl)

pub cast_by_value : CastByValue
cast_by_value t I64 z h = (signed t z).0
cast_by_value t I32 z h = (signed t z).1
cast_by_value t I8 z h = (signed t z).2
cast_by_value t I16 z h = (signed t z).3
cast_by_value t U64 (pos n) h = (unsigned t n).0
cast_by_value t U32 (pos n) h = (unsigned t n).1
cast_by_value t U8 (pos n) h = (unsigned t n).2
cast_by_value t U16 (pos n) h = (unsigned t n).3
cast_by_value t U64 (negsuc n) h = no_negative U64 n refl h
cast_by_value t U32 (negsuc n) h = no_negative U32 n refl h
cast_by_value t U8 (negsuc n) h = no_negative U8 n refl h
cast_by_value t U16 (negsuc n) h = no_negative U16 n refl h
