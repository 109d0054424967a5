-- The whole part of an f64 by its bits, and what is kept of it in 64 bits.
use Rattle.std.proofs.Common.{Option, Some, None, ◌≡◌, ℕ, zero, suc, ◌+◌, ◌-◌, ◌*◌, ◌/◌, ◌%◌, ◌^◌, ◌<◌, ◌≤◌, min, Bool, true, false, cond, not, T, eqb, ltb, sym, refl, ap, ◌∙◌, subst, le_trans, le_of_eq, lt_of_lt_of_le, le-add_right, lt_of_le_of_lt, le_of_lt, mul-le-mul_right, mod-eq_of_lt, mul_assoc, mul-one, div-le_self, mul-div_cancel, arith, lit<, lit≤, ltb→lt, nltb→le, pow_pos, pow_mono, pow-add, shl_lt, shr_lt, le-ltb, lt-ltb}
use native.Mathlib.Nat.{div-eq_of_lt}
use native.Mathlib.Nat.{mul-mod_left}
use mir.Facts.{no_eqb}
use borrow.Author.Tests.{lt-leb}
use lib.Ieee.{Float, nan, inf, fin, binary64, up, down, odd, of_fields, of_bits, to_unsigned}
use lib.Ieee.Fits.{down_pos}
use lib.Ieee.Bits.{cond_no}
use lib.Ieee.Exact.{HasValue, odd_sign}
use lib.Ieee.Nearest.{div_same}
use Rattle.number_casts.specs.declared.WholePart.{WholePart}
use Rattle.number_casts.specs.declared.WholePart.TheVariants.{Below64, Below127}
use Rattle.number_casts.specs.Whole.{whole_part_of}

abbrev pub below64 : ℕ → Option WholePart
below64 q = Some (Below64 q)

abbrev pub below127 : ℕ → Option WholePart
below127 r = Some (Below127 r)

-- ---- the whole part of a value, from a fraction that it equals
unsigned_val : (y : Float) (a c : ℕ) → 0 < c → HasValue y false a c → to_unsigned 128 y ≡ min (a / c) (2 ^ 128 - 1)
unfolding to_unsigned
unsigned_val nan a c C h = absurd h
unsigned_val (inf t) a c C h = absurd h
unsigned_val (fin t m e) a c C h =
    ap (λ (b : Bool). cond b 0 (min (m * up e / down e) (2 ^ 128 - 1))) h.0
    ∙ ap (λ (x : ℕ). min x (2 ^ 128 - 1)) (div_same (m * up e) (down e) a c (down_pos e) C h.1)

odd_unsigned : (q k : ℕ) → to_unsigned 128 (odd 53 false q k 1074) ≡ min (q * 2 ^ k / 2 ^ 1074) (2 ^ 128 - 1)
odd_unsigned q k = unsigned_val (odd 53 false q k 1074) (q * 2 ^ k) (2 ^ 1074) (pow_pos 1074) (odd_sign 53 false q k 1074)

fields_suc : (s : Bool) (x d : ℕ) → suc x < 2047 → of_fields binary64 s (suc x) d ≡ odd 53 s (2 ^ 52 + d) x 1074
unfolding of_fields
fields_suc s x d h = cond_no (eqb (suc x) 2047) (cond (eqb d 0) (inf s) nan) (odd 53 s (2 ^ 52 + d) x 1074) (no_eqb (ne h))
  where
    ne : suc x < 2047 → suc x ≡ 2047 → ⊥
    ne h e = omega arith

fields_zero : (s : Bool) (d : ℕ) → of_fields binary64 s 0 d ≡ odd 53 s d 0 1074
unfolding of_fields
fields_zero s d = refl

min_small : (a b : ℕ) → a ≤ b → min a b ≡ a
min_small a b h = omega arith

-- below 1
tiny : (q k : ℕ) → q * 2 ^ k < 2 ^ 1074 → to_unsigned 128 (odd 53 false q k 1074) ≡ 0
tiny q k h = odd_unsigned q k ∙ ap (λ (x : ℕ). min x (2 ^ 128 - 1)) (div-eq_of_lt h)

module _ (d : ℕ) (D : d < 2 ^ 52) where
  sig_lt : 2 ^ 52 + d < 2 ^ 53
  sig_lt = omega arith

  pub at_tiny : (e : ℕ) → e < 1023 → to_unsigned 128 (of_fields binary64 false e d) ≡ 0
  at_tiny zero h = ap (to_unsigned 128) (fields_zero false d) ∙ tiny d 0 (lt_of_lt_of_le (subst (λ (x : ℕ). x < 2 ^ 52) (sym (mul-one d)) D) (lit≤ tt))
  at_tiny (suc x) h =
      let t : suc x < 2047 = omega arith in
      let b : 53 + x ≤ 1074 = omega arith in
      ap (to_unsigned 128) (fields_suc false x d t) ∙ tiny (2 ^ 52 + d) x (lt_of_lt_of_le (shl_lt 53 x sig_lt) (pow_mono b))

  -- digits are dropped
  pub at_small : (e : ℕ) → 0 < e → e ≤ 1075 → to_unsigned 128 (of_fields binary64 false e d) ≡ (2 ^ 52 + d) / 2 ^ (1075 - e)
  at_small zero p h = absurd (no p)
    where
      no : 0 < 0 → ⊥
      no h = omega arith
  at_small (suc x) p h =
      let t : suc x < 2047 = omega arith in
      let r = 1075 - suc x in
      let e1 : x + (1075 - suc x) ≡ 1074 = omega arith in
      let e2 : 53 ≤ 53 + (1075 - suc x) = omega arith in
      let q = (2 ^ 52 + d) / 2 ^ (1075 - suc x) in
      let q_lt : (2 ^ 52 + d) / 2 ^ (1075 - suc x) < 2 ^ 53 = shr_lt 53 (1075 - suc x) (lt_of_lt_of_le sig_lt (pow_mono e2)) in
      let is : (2 ^ 52 + d) * 2 ^ x / 2 ^ 1074 ≡ (2 ^ 52 + d) / 2 ^ (1075 - suc x) =
      div_same ((2 ^ 52 + d) * 2 ^ x) (2 ^ 1074) (2 ^ 52 + d) (2 ^ (1075 - suc x)) (pow_pos 1074) (pow_pos (1075 - suc x))
      (mul_assoc (2 ^ 52 + d) (2 ^ x) (2 ^ (1075 - suc x)) ∙ ap (λ (y : ℕ). (2 ^ 52 + d) * y) (sym (pow-add 2 x (1075 - suc x)) ∙ ap (λ (y : ℕ). 2 ^ y) e1)) in
      let small : (2 ^ 52 + d) / 2 ^ (1075 - suc x) ≤ 2 ^ 128 - 1 = le_trans (le_of_lt q_lt) (lit≤ tt) in
      ap (to_unsigned 128) (fields_suc false x d t) ∙ odd_unsigned (2 ^ 52 + d) x ∙ ap (λ (y : ℕ). min y (2 ^ 128 - 1)) is ∙ min_small q (2 ^ 128 - 1) small

  -- zeros are put on
  pub at_big : (e : ℕ) → 1075 ≤ e → e < 2047 → to_unsigned 128 (of_fields binary64 false e d) ≡ min ((2 ^ 52 + d) * 2 ^ (e - 1075)) (2 ^ 128 - 1)
  at_big zero p h = absurd (no p)
    where
      no : 1075 ≤ 0 → ⊥
      no h = omega arith
  at_big (suc x) p h =
      let e1 : x ≡ suc x - 1075 + 1074 = omega arith in
      let is : (2 ^ 52 + d) * 2 ^ x / 2 ^ 1074 ≡ (2 ^ 52 + d) * 2 ^ (suc x - 1075) =
      ap (λ (y : ℕ). y / 2 ^ 1074) (ap (λ (y : ℕ). (2 ^ 52 + d) * 2 ^ y) e1 ∙ ap (λ (y : ℕ). (2 ^ 52 + d) * y) (pow-add 2 (suc x - 1075) 1074) ∙ sym
      (mul_assoc (2 ^ 52 + d) (2 ^ (suc x - 1075)) (2 ^ 1074)))
      ∙ mul-div_cancel ((2 ^ 52 + d) * 2 ^ (suc x - 1075)) (pow_pos 1074) in
      ap (to_unsigned 128) (fields_suc false x d h) ∙ odd_unsigned (2 ^ 52 + d) x ∙ ap (λ (y : ℕ). min y (2 ^ 128 - 1)) is

  pub big_lo : (j k : ℕ) → j ≤ k → 2 ^ (52 + j) ≤ (2 ^ 52 + d) * 2 ^ k
  big_lo j k h = le_trans (pow_mono (more h)) (le_trans (le_of_eq (pow-add 2 52 k)) (mul-le-mul_right (2 ^ k) (le-add_right (2 ^ 52) d)))
    where
      more : j ≤ k → 52 + j ≤ 52 + k
      more h = omega arith

  pub big_hi : (j k : ℕ) → k ≤ j → (2 ^ 52 + d) * 2 ^ k < 2 ^ (53 + j)
  big_hi j k h = lt_of_lt_of_le (shl_lt 53 k sig_lt) (pow_mono (more h))
    where
      more : k ≤ j → 53 + k ≤ 53 + j
      more h = omega arith

-- ---- what is kept of it
pub whole_small : (q n : ℕ) → q ≡ n → n < 2 ^ 64 → below64 n ≡ whole_part_of q
unfolding whole_part_of
whole_small q n e h = sym (ap whole_part_of e ∙ ap (λ (b : Bool). cond b (below64 n) (cond (ltb n (2 ^ 127)) (below127 (n % 2 ^ 64)) None)) (lt-ltb n (2 ^ 64) h))

pub whole_large : (q n r : ℕ) → q ≡ n → 2 ^ 64 ≤ n → n < 2 ^ 127 → n % 2 ^ 64 ≡ r → below127 r ≡ whole_part_of q
unfolding whole_part_of
whole_large q n r e h l k =
    sym (ap whole_part_of e
    ∙ ap (λ (b : Bool). cond b (below64 n) (cond (ltb n (2 ^ 127)) (below127 (n % 2 ^ 64)) None)) (le-ltb n (2 ^ 64) h)
    ∙ ap (λ (b : Bool). cond b (below127 (n % 2 ^ 64)) None) (lt-ltb n (2 ^ 127) l)
    ∙ ap below127 k)

pub whole_over : (q n : ℕ) → q ≡ n → 2 ^ 127 ≤ n → None ≡ whole_part_of q
unfolding whole_part_of
whole_over q n e h =
    let a : 2 ^ 64 ≤ n = le_trans (lit≤ tt) h in
    sym (ap whole_part_of e
    ∙ ap (λ (b : Bool). cond b (below64 n) (cond (ltb n (2 ^ 127)) (below127 (n % 2 ^ 64)) None)) (le-ltb n (2 ^ 64) a)
    ∙ ap (λ (b : Bool). cond b (below127 (n % 2 ^ 64)) None) (le-ltb n (2 ^ 127) h))

-- ---- by the bits of the magnitude
pub whole_mag : (m : ℕ) → m < 2 ^ 63 → to_unsigned 128 (of_bits binary64 m) ≡ to_unsigned 128 (of_fields binary64 false (m / 2 ^ 52) (m % 2 ^ 52))
unfolding of_bits
whole_mag m h =
    let e : m % 2 ^ 63 ≡ m = mod-eq_of_lt h in
    ap (λ (b : Bool). to_unsigned 128 (of_fields binary64 b (m % 2 ^ 63 / 2 ^ 52) (m % 2 ^ 52))) (lt-leb (2 ^ 63) m h)
    ∙ ap (λ (y : ℕ). to_unsigned 128 (of_fields binary64 false (y / 2 ^ 52) (m % 2 ^ 52))) e

pub nan_mag : (m : ℕ) → m < 2 ^ 63 → 0x7ff0_0000_0000_0000 < m → to_unsigned 128 (of_bits binary64 m) ≡ 0
unfolding of_fields to_unsigned
nan_mag m h k =
    let x : m / 2 ^ 52 ≡ 2047 = omega arith in
    let y : m % 2 ^ 52 ≡ 0 → ⊥ = λ (q : m % 2 ^ 52 ≡ 0). omega arith in
    whole_mag m h
    ∙ ap (λ (i : ℕ). to_unsigned 128 (of_fields binary64 false i (m % 2 ^ 52))) x
    ∙ ap (to_unsigned 128) (cond_no (eqb (m % 2 ^ 52) 0) (inf false) nan (no_eqb y))

pub inf_mag : (m : ℕ) → m < 2 ^ 63 → m / 2 ^ 52 ≡ 2047 → m % 2 ^ 52 ≡ 0 → to_unsigned 128 (of_bits binary64 m) ≡ 2 ^ 128 - 1
unfolding of_fields to_unsigned
inf_mag m h x y =
    whole_mag m h
    ∙ ap (λ (i : ℕ). to_unsigned 128 (of_fields binary64 false i (m % 2 ^ 52))) x
    ∙ ap (λ (i : ℕ). to_unsigned 128 (of_fields binary64 false 2047 i)) y

-- ---- the answers of `whole_part`, for the bits m of a magnitude
module _ (m : ℕ) (fit : m < 2 ^ 63) where
  D : m % 2 ^ 52 < 2 ^ 52
  D = omega arith

  pub whole_nan : 0x7ff0_0000_0000_0000 < m → below64 0 ≡ whole_part_of (to_unsigned 128 (of_bits binary64 m))
  whole_nan h = whole_small _ 0 (nan_mag m fit h) (lit< tt)

  pub whole_tiny : m / 2 ^ 52 < 1023 → below64 0 ≡ whole_part_of (to_unsigned 128 (of_bits binary64 m))
  whole_tiny h = whole_small _ 0 (whole_mag m fit ∙ at_tiny (m % 2 ^ 52) D (m / 2 ^ 52) h) (lit< tt)

  pub whole_shr : 1023 ≤ m / 2 ^ 52 → m / 2 ^ 52 ≤ 1075 → below64 ((2 ^ 52 + m % 2 ^ 52) / 2 ^ (1075 - m / 2 ^ 52)) ≡ whole_part_of (to_unsigned 128 (of_bits binary64 m))
  whole_shr l h =
      let p : 0 < m / 2 ^ 52 = omega arith in
      let b : 2 ^ 52 + m % 2 ^ 52 < 2 ^ 64 = omega arith in
      whole_small _ ((2 ^ 52 + m % 2 ^ 52) / 2 ^ (1075 - m / 2 ^ 52)) (whole_mag m fit ∙ at_small (m % 2 ^ 52) D (m / 2 ^ 52) p h) (lt_of_le_of_lt
      (div-le_self (2 ^ 52 + m % 2 ^ 52) (2 ^ (1075 - m / 2 ^ 52))) b)

  -- put on k zeros, at most 74
  big_is : 1075 ≤ m / 2 ^ 52 → m / 2 ^ 52 - 1075 ≤ 74 → to_unsigned 128 (of_bits binary64 m) ≡ (2 ^ 52 + m % 2 ^ 52) * 2 ^ (m / 2 ^ 52 - 1075)
  big_is l h =
      let e : m / 2 ^ 52 < 2047 = omega arith in
      whole_mag m fit ∙ at_big (m % 2 ^ 52) D (m / 2 ^ 52) l e ∙ min_small _ (2 ^ 128 - 1) (le_trans (le_of_lt (big_hi (m % 2 ^ 52) D 74 (m / 2 ^ 52 - 1075) h)) (lit≤ tt))

  pub whole_shl : 1075 < m / 2 ^ 52 → m / 2 ^ 52 - 1075 < 12 → below64 ((2 ^ 52 + m % 2 ^ 52) * 2 ^ (m / 2 ^ 52 - 1075) % 2 ^ 64) ≡ whole_part_of (to_unsigned 128 (of_bits binary64 m))
  whole_shl l h =
      let l' : 1075 ≤ m / 2 ^ 52 = omega arith in
      let h' : m / 2 ^ 52 - 1075 ≤ 74 = omega arith in
      let h2 : m / 2 ^ 52 - 1075 ≤ 11 = omega arith in
      let b : (2 ^ 52 + m % 2 ^ 52) * 2 ^ (m / 2 ^ 52 - 1075) < 2 ^ 64 = big_hi (m % 2 ^ 52) D 11 (m / 2 ^ 52 - 1075) h2 in
      let e : (2 ^ 52 + m % 2 ^ 52) * 2 ^ (m / 2 ^ 52 - 1075) % 2 ^ 64 ≡ (2 ^ 52 + m % 2 ^ 52) * 2 ^ (m / 2 ^ 52 - 1075) = mod-eq_of_lt b in
      whole_small _ _ (big_is l' h' ∙ sym e) (subst (λ (x : ℕ). x < 2 ^ 64) (sym e) b)

  pub whole_low : 1075 < m / 2 ^ 52 → 12 ≤ m / 2 ^ 52 - 1075 → m / 2 ^ 52 - 1075 < 75 → (r : ℕ) → (2 ^ 52 + m % 2 ^ 52) * 2 ^ (m / 2 ^ 52 - 1075) % 2
      ^ 64 ≡ r → below127 r ≡ whole_part_of (to_unsigned 128 (of_bits binary64 m))
  whole_low l a h r e =
      let l' : 1075 ≤ m / 2 ^ 52 = omega arith in
      let h' : m / 2 ^ 52 - 1075 ≤ 74 = omega arith in
      whole_large _ _ r (big_is l' h') (big_lo (m % 2 ^ 52) D 12 (m / 2 ^ 52 - 1075) a) (big_hi (m % 2 ^ 52) D 74 (m / 2 ^ 52 - 1075) h') e

  pub no_low : 64 ≤ m / 2 ^ 52 - 1075 → (2 ^ 52 + m % 2 ^ 52) * 2 ^ (m / 2 ^ 52 - 1075) % 2 ^ 64 ≡ 0
  no_low h =
      let k = m / 2 ^ 52 - 1075 in
      let e : m / 2 ^ 52 - 1075 ≡ m / 2 ^ 52 - 1075 - 64 + 64 = omega arith in
      ap (λ (x : ℕ). x % 2 ^ 64) (ap (λ (y : ℕ). (2 ^ 52 + m % 2 ^ 52) * 2 ^ y) e ∙ ap (λ (y : ℕ). (2 ^ 52 + m % 2 ^ 52) * y) (pow-add 2 (k - 64) 64)
      ∙ sym (mul_assoc (2 ^ 52 + m % 2 ^ 52) (2 ^ (k - 64)) (2 ^ 64)))
      ∙ mul-mod_left ((2 ^ 52 + m % 2 ^ 52) * 2 ^ (k - 64)) (2 ^ 64)

  le_min : (a b c : ℕ) → c ≤ a → c ≤ b → c ≤ min a b
  le_min a b c h k = omega arith

  pub whole_past : m ≤ 0x7ff0_0000_0000_0000 → 1075 < m / 2 ^ 52 → 75 ≤ m / 2 ^ 52 - 1075 → None ≡ whole_part_of (to_unsigned 128 (of_bits binary64 m))
  whole_past t l a = go (ltb (m / 2 ^ 52) 2047) (ltb→lt (m / 2 ^ 52) 2047) (nltb→le (m / 2 ^ 52) 2047)
    where
      go : (b : Bool) → (T b → m / 2 ^ 52 < 2047) → (T (not b) → 2047 ≤ m / 2 ^ 52) → None ≡ whole_part_of (to_unsigned 128 (of_bits binary64 m))
      go true y n =
          let l' : 1075 ≤ m / 2 ^ 52 = omega arith in
          whole_over _ _ (whole_mag m fit ∙ at_big (m % 2 ^ 52) D (m / 2 ^ 52) l' (y tt)) (le_min _ (2 ^ 128 - 1) (2 ^ 127) (big_lo (m % 2 ^ 52) D 75
          (m / 2 ^ 52 - 1075) a) (lit≤ tt))
      go false y n =
          let k = n tt in
          let x : m / 2 ^ 52 ≡ 2047 = omega arith in
          let z : m % 2 ^ 52 ≡ 0 = omega arith in
          whole_over _ (2 ^ 128 - 1) (inf_mag m fit x z) (lit≤ tt)
