-- The ten kinds of numbers, and what every integer kind has: its range, and what a number out of range wraps to.
use Rattle.std.specs.Prelude.{ℕ, suc, ◌-◌, ◌%◌, ◌^◌, Bool, true, false, cond, ℤ, pos, negsuc, neg_ℤ, nat_abs, leb, ltb}
use Rattle.numbers.specs.declared.Number.{Number}
use Rattle.numbers.specs.declared.Number.TheVariants.{Int, UInt, SInt, SUInt, Float, SFloat, Byte, SByte, BByte, BSByte}
use Rattle.numbers.specs.declared.IntKind.{IntKind}
use Rattle.numbers.specs.declared.IntKind.TheVariants.{I64, U64, I32, U32, U8, I8, U16, I16}

-- "1 Int (i64), 2 UInt (u64), 3 SInt (i32), 4 SUInt (u32), 5 Float (f64), 6 SFloat (f32), 10 Byte (u8), 11 SByte (i8), 12 BByte (u16), 13 BSByte (i16)"
abbrev pub kind_code : Number → ℕ
kind_code (Int z) = 1
kind_code (UInt n) = 2
kind_code (SInt z) = 3
kind_code (SUInt n) = 4
kind_code (Float x) = 5
kind_code (SFloat x) = 6
kind_code (Byte n) = 10
kind_code (SByte z) = 11
kind_code (BByte n) = 12
kind_code (BSByte z) = 13

-- ---- an integer kind is a number of bits, with a sign or without
abbrev pub int_kind_code : IntKind → ℕ
int_kind_code I64 = 1
int_kind_code U64 = 2
int_kind_code I32 = 3
int_kind_code U32 = 4
int_kind_code U8 = 10
int_kind_code I8 = 11
int_kind_code U16 = 12
int_kind_code I16 = 13

abbrev pub bits_of : IntKind → ℕ
bits_of I64 = 64
bits_of U64 = 64
bits_of I32 = 32
bits_of U32 = 32
bits_of U8 = 8
bits_of I8 = 8
bits_of U16 = 16
bits_of I16 = 16

abbrev pub is_signed : IntKind → Bool
is_signed I64 = true
is_signed U64 = false
is_signed I32 = true
is_signed U32 = false
is_signed U8 = false
is_signed I8 = true
is_signed U16 = false
is_signed I16 = true

-- ---- the range: with a sign from -2^(bits-1) to 2^(bits-1) - 1, without one from 0 to 2^bits - 1
abbrev pub least_magnitude : IntKind → ℕ
least_magnitude k = cond (is_signed k) (2 ^ (bits_of k - 1)) 0

abbrev pub greatest : IntKind → ℕ
greatest k = cond (is_signed k) (2 ^ (bits_of k - 1)) (2 ^ bits_of k) - 1

abbrev pub least : IntKind → ℤ
least k = neg_ℤ (pos (least_magnitude k))

abbrev pub in_range : IntKind → ℤ → Bool
in_range k (pos n) = leb n (greatest k)
in_range k (negsuc n) = leb (suc n) (least_magnitude k)

-- the integer z as a number of the kind k
abbrev pub as_kind : IntKind → ℤ → Number
as_kind I64 z = Int z
as_kind U64 z = UInt (nat_abs z)
as_kind I32 z = SInt z
as_kind U32 z = SUInt (nat_abs z)
as_kind U8 z = Byte (nat_abs z)
as_kind I8 z = SByte z
as_kind U16 z = BByte (nat_abs z)
as_kind I16 z = BSByte z

-- ---- wrapping: the low bits of z in two's complement, read as a number of the kind
abbrev pub low_bits : ℕ → ℤ → ℕ
low_bits b (pos n) = n % 2 ^ b
low_bits b (negsuc n) = 2 ^ b - suc (n % 2 ^ b)

-- a word of h + 1 bits as a signed number
abbrev pub twos_complement : ℕ → ℕ → ℤ
twos_complement h w = cond (ltb w (2 ^ h)) (pos w) (negsuc (2 ^ suc h - suc w))

unfoldable pub wrapping : IntKind → ℤ → ℤ
wrapping k z = cond (is_signed k) (twos_complement (bits_of k - 1) (low_bits (bits_of k) z)) (pos (low_bits (bits_of k) z))
