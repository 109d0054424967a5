-- Casts: the low 64 bits, the range, the whole part of a float held to 128 bits, and an integer as an f64. Assumes nothing.
use Rattle.std.proofs.Common.{Option, Some, None, ◌≡◌, ℕ, zero, suc, ◌+◌, ◌-◌, ◌*◌, ◌/◌, ◌%◌, ◌^◌, ◌<◌, ◌≤◌, min, Bool, true, false, cond, not, T, eqb, ltb, leb, ℤ, pos, neg_ℤ, sym, refl, ap, ◌∙◌, subst, le_trans, lt_of_lt_of_le, le_of_lt, arith, lit≤, ltb→lt, nltb→le, eq-eqb, ne_eqb, Ok, Err}
use lib.Count.{count_trailing_zeros}
use lib.Ieee.{Format, prec, emax, low, size, units, round, neg, of_int, Float, nan, inf, fin, binary64, up, down, minus, odd, fits, of_fields, of_bits, to_bits, to_unsigned, to_signed}
use lib.Ieee.Bits.{of_bits-to_bits}
use lib.Ieee.Fits.{round_is}
use lib.Ieee.Nearest.{closest}
use borrow.Author.Tests.{lt-leb}
use Rattle.numbers.specs.declared.CastTarget.{CastTarget}
use Rattle.numbers.specs.declared.Number.{Number}
use Rattle.numbers.specs.declared.Number.TheVariants.{Int}
use Rattle.numbers.specs.declared.NumberFault.TheVariants.{InvalidCast}
use Rattle.numbers.specs.declared.IntKind.{IntKind}
use Rattle.numbers.specs.declared.IntKind.TheVariants.{I64, U64}
use Rattle.number_casts.specs.declared.WholePart.{WholePart}
use Rattle.number_casts.specs.declared.WholePart.TheVariants.{Below64, Below127}
use Rattle.numbers.specs.Kinds.{int_kind_code, in_range, as_kind, low_bits, wrapping}
use Rattle.numbers.specs.Scalars.{Scalar, scalar_of}
use Rattle.numbers.specs.Answers.{pick}
use Rattle.numbers.specs.Casts.{cast_to, cast_of, truncated, as_float, cast_integer}
use Rattle.number_casts.proofs.Whole.{below64, below127}
use Rattle.number_casts.specs.Whole.{whole_part_of}
use Rattle.numbers.proofs.Signs.{signed}
use Rattle.numbers.proofs.Ranges.{outside}
use Rattle.numbers.proofs.Wrap.{wrapping_word, wrapping_in, low_of_64, neg_word}

-- ---- the three ways of a cast to an integer kind, for the integer z with the word w
module _ (k : IntKind) (z : ℤ) (w : ℕ) (word : w ≡ low_bits 64 z) {m : ℕ} (code : m ≡ int_kind_code k) where
  pub cast_int : m ≡ 1 → Ok (as_kind I64 (wrapping I64 (pos w))) ≡ cast_integer k z
  unfolding cast_integer
  cast_int h =
      ap (λ (y : ℤ). Ok (Int y)) (wrapping_word I64 z word)
      ∙ sym (ap (λ (b : Bool). pick b (Ok (Int (wrapping I64 z))) (pick (in_range k z) (Ok (as_kind k z)) (Err InvalidCast))) (eq-eqb (int_kind_code k) 1 (sym code ∙ h)))

  cast_other : (b : Bool) → (m ≡ 1 → ⊥) → in_range k z ≡ b → pick b (Ok (as_kind k z)) (Err InvalidCast) ≡ cast_integer k z
  unfolding cast_integer
  cast_other b h r =
      sym (ap (λ (a : Bool). pick a (Ok (Int (wrapping I64 z))) (pick (in_range k z) (Ok (as_kind k z)) (Err InvalidCast))) (ne_eqb (int_kind_code k) 1 (λ q. h (code ∙ q)))
      ∙ ap (λ (a : Bool). pick a (Ok (as_kind k z)) (Err InvalidCast)) r)

  pub cast_fits : (m ≡ 1 → ⊥) → in_range k z ≡ true → Ok (as_kind k (wrapping k (pos w))) ≡ cast_integer k z
  cast_fits h r = ap (λ (y : ℤ). Ok (as_kind k y)) (wrapping_word k z word ∙ wrapping_in k z r) ∙ cast_other true h r

  pub cast_invalid : (m ≡ 1 → ⊥) → in_range k z ≡ false → Err InvalidCast ≡ cast_integer k z
  cast_invalid h r = cast_other false h r

-- ---- which whole part it was
abbrev pub View : Option WholePart → ℕ → Type 0
View (Some (Below64 q)) n = (q ≡ n) × (n < 2 ^ 64)
View (Some (Below127 r)) n = (r ≡ n % 2 ^ 64) × (2 ^ 64 ≤ n) × (n < 2 ^ 127)
View None n = 2 ^ 127 ≤ n

view_of : (n : ℕ) → View (whole_part_of n) n
unfolding whole_part_of
view_of n = go (ltb n (2 ^ 64)) (ltb n (2 ^ 127)) (ltb→lt n (2 ^ 64)) (nltb→le n (2 ^ 64)) (ltb→lt n (2 ^ 127)) (nltb→le n (2 ^ 127))
  where
    go : (a b : Bool) → (T a → n < 2 ^ 64) → (T (not a) → 2 ^ 64 ≤ n) → (T b → n < 2 ^ 127) → (T (not b) → 2 ^ 127 ≤ n) → View (cond a (below64
        n) (cond b (below127 (n % 2 ^ 64)) None)) n
    go true b x y z w = (refl, x tt)
    go false true x y z w = (refl, y tt, z tt)
    go false false x y z w = w tt

pub view : (n : ℕ) {r c : Option WholePart} → r ≡ whole_part_of n → r ≡ c → View c n
view n e k = subst (λ (c : Option WholePart). View c n) (sym e ∙ k) (view_of n)

-- ---- the whole part of a float, held to -2^127 .. 2^127 - 1, from its magnitude's
abbrev pub hold : Bool → ℕ → ℤ
hold s n = cond s (neg_ℤ (pos (min n (2 ^ 127)))) (pos (min n (2 ^ 127 - 1)))

min_min : (n a b : ℕ) → b ≤ a → min (min n a) b ≡ min n b
min_min n a b h = omega arith

hold_min : (s : Bool) (n : ℕ) → hold s n ≡ hold s (min n (2 ^ 128 - 1))
hold_min true n = ap (λ (k : ℕ). neg_ℤ (pos k)) (sym (min_min n (2 ^ 128 - 1) (2 ^ 127) (lit≤ tt)))
hold_min false n = ap pos (sym (min_min n (2 ^ 128 - 1) (2 ^ 127 - 1) (lit≤ tt)))

fin_hold : (s : Bool) (m : ℕ) (e : ℤ) → to_signed 127 (fin s m e) ≡ hold s (to_unsigned 128 (fin false m e))
unfolding to_signed to_unsigned
fin_hold s m e = hold_min s (m * up e / down e)

odd_hold : (s : Bool) (q k : ℕ) → to_signed 127 (odd 53 s q k 1074) ≡ hold s (to_unsigned 128 (odd 53 false q k 1074))
unfolding odd
odd_hold s zero k = fin_hold s 0 (pos 0)
odd_hold s (suc q) k = fin_hold s (suc q / 2 ^ count_trailing_zeros 53 (suc q)) (minus (k + count_trailing_zeros 53 (suc q)) 1074)

cond_hold : (s a b : Bool) (x y : Float) → to_signed 127 x ≡ hold s (to_unsigned 128 y)
    → to_signed 127 (cond a (cond b (inf s) nan) x) ≡ hold s (to_unsigned 128 (cond a (cond b (inf false) nan) y))
unfolding to_signed to_unsigned
cond_hold true true true x y h = refl
cond_hold false true true x y h = refl
cond_hold true true false x y h = refl
cond_hold false true false x y h = refl
cond_hold s false b x y h = h

fields_hold : (s : Bool) (e d : ℕ) → to_signed 127 (of_fields binary64 s e d) ≡ hold s (to_unsigned 128 (of_fields binary64 false e d))
unfolding of_fields
fields_hold s zero d = odd_hold s d 0
fields_hold s (suc x) d = cond_hold s (eqb (suc x) 2047) (eqb d 0) (odd 53 s (2 ^ 52 + d) x 1074) (odd 53 false (2 ^ 52 + d) x 1074) (odd_hold s (2 ^ 52 + d) x)

by_bits : (b : ℕ) → b < 2 ^ 64 → to_signed 127 (of_bits binary64 b) ≡ hold (leb (2 ^ 63) b) (to_unsigned 128 (of_bits binary64 (b % 2 ^ 63)))
unfolding of_bits
by_bits b h =
    let m : b % 2 ^ 63 < 2 ^ 63 = omega arith in
    let e1 : b % 2 ^ 63 % 2 ^ 63 ≡ b % 2 ^ 63 = omega arith in
    let e2 : b % 2 ^ 63 % 2 ^ 52 ≡ b % 2 ^ 52 = omega arith in
    fields_hold (leb (2 ^ 63) b) (b % 2 ^ 63 / 2 ^ 52) (b % 2 ^ 52)
    ∙ sym (ap (λ (s : Bool). hold (leb (2 ^ 63) b) (to_unsigned 128 (of_fields binary64 s (b % 2 ^ 63 % 2 ^ 63 / 2 ^ 52) (b % 2 ^ 63 % 2 ^ 52)))) (lt-leb (2 ^ 63) (b % 2 ^ 63) m)
    ∙ ap (λ (y : ℕ). hold (leb (2 ^ 63) b) (to_unsigned 128 (of_fields binary64 false (y / 2 ^ 52) (b % 2 ^ 63 % 2 ^ 52)))) e1
    ∙ ap (λ (y : ℕ). hold (leb (2 ^ 63) b) (to_unsigned 128 (of_fields binary64 false (b % 2 ^ 63 / 2 ^ 52) y))) e2)

pub held : (x : Float) (b : ℕ) → T (fits binary64 x) → b < 2 ^ 64 → b ≡ to_bits binary64 x → to_signed 127 x ≡ hold (leb (2 ^ 63) b) (to_unsigned 128 (of_bits binary64 (b % 2 ^ 63)))
held x b f h e = ap (to_signed 127) (sym (ap (of_bits binary64) e ∙ of_bits-to_bits binary64 x f)) ∙ by_bits b h

min_is : (a b : ℕ) → a ≤ b → min a b ≡ a
min_is a b h = omega arith

min_cap : (a b : ℕ) → b ≤ a → min a b ≡ b
min_cap a b h = omega arith

pub hold_in : (s : Bool) (n : ℕ) → n < 2 ^ 127 → hold s n ≡ signed s n
hold_in true n h = ap (λ (k : ℕ). neg_ℤ (pos k)) (min_is n (2 ^ 127) (le_of_lt h))
hold_in false n h = ap pos (min_is n (2 ^ 127 - 1) (pred_le n (2 ^ 127) h))
  where
    pred_le : (n p : ℕ) → n < p → n ≤ p - 1
    pred_le n p h = omega arith

pub hold_over : (s : Bool) (n : ℕ) → 2 ^ 127 ≤ n → hold s n ≡ cond s (neg_ℤ (pos (2 ^ 127))) (pos (2 ^ 127 - 1))
hold_over true n h = ap (λ (k : ℕ). neg_ℤ (pos k)) (min_cap n (2 ^ 127) h)
hold_over false n h = ap pos (min_cap n (2 ^ 127 - 1) (le_trans (lit≤ tt) h))

-- at and past the ends of 128 bits
abbrev pub end : Bool → ℤ
end s = cond s (neg_ℤ (pos (2 ^ 127))) (pos (2 ^ 127 - 1))

pub end_outside : (k : IntKind) (s : Bool) → in_range k (end s) ≡ false
end_outside k true = outside k true (2 ^ 127) (lit≤ tt)
end_outside k false = outside k false (2 ^ 127 - 1) (lit≤ tt)

pub end_word : (s : Bool) → cond s 0 0xffff_ffff_ffff_ffff ≡ low_bits 64 (end s)
end_word true = refl
end_word false = refl

-- the low bits of a number, from those of its magnitude
pub signed_word : (s : Bool) (n r : ℕ) → r ≡ n % 2 ^ 64 → low_bits 64 (signed s r) ≡ low_bits 64 (signed s n)
signed_word false n r e = ap (λ (k : ℕ). k % 2 ^ 64) e ∙ low_of_64 U64 (pos n)
signed_word true n r e = neg_word n r e

-- ---- what `make_whole` knows of a float x with the bits b, by its whole part
module _ (x : Float) (b : ℕ) (f : T (fits binary64 x)) (h : b < 2 ^ 64) (e : b ≡ to_bits binary64 x) where
  pub small_is : (q : ℕ) → View (below64 q) (to_unsigned 128 (of_bits binary64 (b % 2 ^ 63))) → signed (leb (2 ^ 63) b) q ≡ to_signed 127 x
  small_is q k =
      let n = to_unsigned 128 (of_bits binary64 (b % 2 ^ 63)) in
      ap (signed (leb (2 ^ 63) b)) k.0 ∙ sym (held x b f h e ∙ hold_in (leb (2 ^ 63) b) n (lt_of_lt_of_le k.1 (lit≤ tt)))

  large_is : (r : ℕ) → View (below127 r) (to_unsigned 128 (of_bits binary64 (b % 2 ^ 63))) → to_signed 127 x ≡ signed (leb (2 ^ 63) b) (to_unsigned 128 (of_bits binary64 (b % 2 ^ 63)))
  large_is r k = held x b f h e ∙ hold_in (leb (2 ^ 63) b) (to_unsigned 128 (of_bits binary64 (b % 2 ^ 63))) k.2

  pub large_word : (r : ℕ) → View (below127 r) (to_unsigned 128 (of_bits binary64 (b % 2 ^ 63))) → low_bits 64 (signed (leb (2 ^ 63) b) r) ≡ low_bits 64 (to_signed 127 x)
  large_word r k = signed_word (leb (2 ^ 63) b) (to_unsigned 128 (of_bits binary64 (b % 2 ^ 63))) r k.0 ∙ sym (ap (low_bits 64) (large_is r k))

  pub large_outside : (j : IntKind) (r : ℕ) → View (below127 r) (to_unsigned 128 (of_bits binary64 (b % 2 ^ 63))) → in_range j (to_signed 127 x) ≡ false
  large_outside j r k = ap (in_range j) (large_is r k) ∙ outside j (leb (2 ^ 63) b) (to_unsigned 128 (of_bits binary64 (b % 2 ^ 63))) k.1

  beyond_is : View None (to_unsigned 128 (of_bits binary64 (b % 2 ^ 63))) → (s : Bool) → leb (2 ^ 63) b ≡ s → to_signed 127 x ≡ end s
  beyond_is k s t = held x b f h e ∙ hold_over (leb (2 ^ 63) b) (to_unsigned 128 (of_bits binary64 (b % 2 ^ 63))) k ∙ ap end t

  pub beyond_word : View None (to_unsigned 128 (of_bits binary64 (b % 2 ^ 63))) → (s : Bool) → leb (2 ^ 63) b ≡ s → cond s 0 0xffff_ffff_ffff_ffff ≡ low_bits 64 (to_signed 127 x)
  beyond_word k s t = end_word s ∙ sym (ap (low_bits 64) (beyond_is k s t))

  pub beyond_outside : (j : IntKind) → View None (to_unsigned 128 (of_bits binary64 (b % 2 ^ 63))) → (s : Bool) → leb (2 ^ 63) b ≡ s → in_range j (to_signed 127 x) ≡ false
  beyond_outside j k s t = ap (in_range j) (beyond_is k s t) ∙ end_outside j s

-- ---- an integer as an f64
neg_odd : (d q k l : ℕ) → neg (odd d false q k l) ≡ odd d true q k l
unfolding odd neg
neg_odd d zero k l = refl
neg_odd d (suc q) k l = refl

neg_units : (f : Format) (q k : ℕ) → neg (units f false q k) ≡ units f true q k
unfolding units
neg_units f q k = go (ltb (q * 2 ^ k) (2 ^ (low f + suc (emax f))))
  where
    go : (b : Bool) → neg (cond b (odd (suc (prec f)) false q k (low f)) (inf false)) ≡ cond b (odd (suc (prec f)) true q k (low f)) (inf true)
    go true = neg_odd (suc (prec f)) q k (low f)
    go false = unfold neg in refl

neg_round : (f : Format) (n d : ℕ) → neg (round f false n d) ≡ round f true n d
neg_round f n d =
    let k = size (n * 2 ^ low f / d) - prec f in
    ap neg (round_is f false n d) ∙ neg_units f (closest (n * 2 ^ low f) (d * 2 ^ k)) k ∙ sym (round_is f true n d)

pub float_neg : (n : ℕ) → (n ≡ 0 → ⊥) → neg (of_int binary64 (pos n)) ≡ of_int binary64 (neg_ℤ (pos n))
unfolding of_int
float_neg zero z = absurd (z refl)
float_neg (suc n) z = neg_round binary64 (suc n) 1

-- ---- the cast of a number, from what it stands for
pub cast_scalar : (t : CastTarget) (a : Number) (s : Scalar) → s ≡ scalar_of a → cast_to t (truncated s) (as_float s) ≡ cast_of t a
unfolding cast_of
cast_scalar t a s e = ap (λ (y : Scalar). cast_to t (truncated y) (as_float y)) e
