-- The bits of the f32 nearest to an f64: by the exponent's field of the f64, those of a normal number, of a subnormal one, zero's, or an infinity's.
-- Assumes nothing.
use mathlib.Core.Path.{◌≡◌, refl, sym, ap, ◌∙◌, subst}
use mathlib.Core.Logic.{◌⊎◌, inl, inr}
use mathlib.Core.Bool.{Bool, true, false, not, cond}
use Prim.Native.Nat.{ℕ, zero, suc, ◌+◌, ◌-◌, ◌*◌, ◌/◌, ◌%◌, ◌^◌, ◌<◌, ◌≤◌, compare}
use native.Mathlib.Omega.{arith}
use native.Mathlib.Nat.{mul-pos, zero-add, le_antisymm, le_trans, le_of_eq, lt_of_le_of_lt, lt_of_lt_of_le, lt_of_not-le, lt_irrefl, mul_assoc, mul-one}
use native.Mathlib.Nat.{mul_comm, mul-le-mul_right, mul-le-mul_left, mul-div_cancel, le-div_iff_mul-le, div-one, add_assoc, le_of_mul-le-mul_right}
use lib.Dec.{T, ltb, eqb, ltb→lt, nltb→le, lit≤, lit<}
use mir.Facts.{no_eqb}
use lib.Arith.{le→nltb}
use borrow.Author.Tests.{le-leb, lt-leb}
use lib.Pow.{pow-add, pow_pos, pow_mono, pow-lt, shl_lt, shr_lt}
use lib.Ieee.{Float, nan, inf, fin, binary32, binary64, up, down, size, odd, units, round, fits, of_fields, of_bits, to_bits}
use lib.Ieee.Digits.{size-lt, size-le}
use lib.Ieee.Fits.{round_is, round-fits, down_pos, nearest-le}
use lib.Ieee.Bits.{of_bits-to_bits, cond_no}
use lib.Ieee.Exact.{HasValue, odd_sign, units_val}
use lib.Ieee.Nearest.{closest, closest_same, div_same, nearest-ge}
use lib.Ieee.Scale.{round_same}
use Rattle.float_bits.specs.Nearest.{nearest_binary32}
use Rattle.float_bits.proofs.Round.{closest_zero}

-- ---- a fraction that a value equals, rounded to binary32
pub nearest_binary32_val : (x : Float) (s : Bool) (a c : ℕ) → 0 < c → HasValue x s a c → nearest_binary32 x ≡ round binary32 s a c
unfolding nearest_binary32
nearest_binary32_val nan s a c C h = absurd h
nearest_binary32_val (inf t) s a c C h = absurd h
nearest_binary32_val (fin t m e) s a c C h =
    ap (λ (b : Bool). round binary32 b (m * up e) (down e)) h.0 ∙ round_same binary32 s (m * up e) (down e) a c (down_pos e) C h.1

nearest_binary32_odd : (s : Bool) (q k : ℕ) → nearest_binary32 (odd 53 s q k 1074) ≡ round binary32 s (q * 2 ^ k) (2 ^ 1074)
nearest_binary32_odd s q k = nearest_binary32_val (odd 53 s q k 1074) s (q * 2 ^ k) (2 ^ 1074) (pow_pos 1074) (odd_sign 53 s q k 1074)

-- `round` where the number of dropped digits and the kept number are known
round_at : (s : Bool) (num den k q : ℕ) → size (num * 2 ^ 149 / den) - 24 ≡ k → closest (num * 2 ^ 149) (den * 2 ^ k) ≡ q → round binary32 s num den ≡ units binary32 s q k
round_at s num den k q hk hq =
    round_is binary32 s num den
    ∙ ap (λ (j : ℕ). units binary32 s (closest (num * 2 ^ 149) (den * 2 ^ j)) j) hk
    ∙ ap (λ (x : ℕ). units binary32 s x k) hq

-- ---- sizes
size_exact : (a n : ℕ) → 2 ^ a ≤ n → n < 2 ^ suc a → size n ≡ suc a
size_exact a n lo hi = le_antisymm (size-le n (suc a) hi) (back a (size n) (lt_of_le_of_lt lo (size-lt n)))
  where
    back : (i p : ℕ) → 2 ^ i < 2 ^ p → i < p
    back i p h = lt_of_not-le (λ (g : p ≤ i). lt_irrefl (2 ^ i) (lt_of_lt_of_le h (pow_mono g)))

none : (z : ℕ) → z ≤ 24 → z - 24 ≡ 0
none z h = omega arith

over : (k : ℕ) → suc (23 + k) - 24 ≡ k
over k = omega arith

over' : (k : ℕ) → suc (24 + k) - 24 ≡ suc k
over' k = omega arith

pw : (a b c d : ℕ) → a + b ≡ c + d → 2 ^ a * 2 ^ b ≡ 2 ^ c * 2 ^ d
pw a b c d e = sym (pow-add 2 a b) ∙ ap (λ (x : ℕ). 2 ^ x) e ∙ pow-add 2 c d

-- ---- the bits of a value of the format
bits_of : (v : Float) (s : Bool) (n : ℕ) → HasValue v s n (2 ^ 149) → to_bits binary32 v ≡ cond s (2 ^ 31) 0 + (size n - 24) * 2 ^ 23 + n / 2 ^ (size n - 24)
unfolding to_bits
bits_of nan s n h = absurd h
bits_of (inf t) s n h = absurd h
bits_of (fin t m e) s n h =
    ap (λ (x : ℕ). cond t (2 ^ 31) 0 + (size x - 24) * 2 ^ 23 + x / 2 ^ (size x - 24)) (ap (λ (x : ℕ). x / down e) h.1 ∙ mul-div_cancel n (down_pos e))
    ∙ ap (λ (b : Bool). cond b (2 ^ 31) 0 + (size n - 24) * 2 ^ 23 + n / 2 ^ (size n - 24)) h.0

-- q * 2^k units, where q has all its digits or k is 0: the exponent's field and the digits are k * 2^23 + q

pattern : (q k n : ℕ) → q * 2 ^ k ≡ n → q ≤ 2 ^ 24 → (k ≡ 0) ⊎ (2 ^ 23 ≤ q) → (size n - 24) * 2 ^ 23 + n / 2 ^ (size n - 24) ≡ k * 2 ^ 23 + q
pattern q k n e h o = go (yes_no (ltb q (2 ^ 23))) (yes_no (ltb q (2 ^ 24)))
  where
    yes_no : (a : Bool) → T a ⊎ T (not a)
    yes_no true = inl tt
    yes_no false = inr tt

    at : (j : ℕ) → size n - 24 ≡ j → (size n - 24) * 2 ^ 23 + n / 2 ^ (size n - 24) ≡ j * 2 ^ 23 + n / 2 ^ j
    at j p = ap (λ (x : ℕ). x * 2 ^ 23 + n / 2 ^ x) p

    low : k ≡ 0 → q < 2 ^ 24 → (size n - 24) * 2 ^ 23 + n / 2 ^ (size n - 24) ≡ k * 2 ^ 23 + q
    low z l =
        let is : n ≡ q = sym e ∙ ap (λ (x : ℕ). q * 2 ^ x) z ∙ mul-one q in
        at 0 (none (size n) (size-le n 24 (subst (λ (x : ℕ). x < 2 ^ 24) (sym is) l)))
        ∙ ap (λ (x : ℕ). 0 * 2 ^ 23 + x) (div-one n ∙ is)
        ∙ ap (λ (x : ℕ). x * 2 ^ 23 + q) (sym z)

    mid : 2 ^ 23 ≤ q → q < 2 ^ 24 → (size n - 24) * 2 ^ 23 + n / 2 ^ (size n - 24) ≡ k * 2 ^ 23 + q
    mid a b =
        let lo : 2 ^ (23 + k) ≤ n = subst (λ (x : ℕ). 2 ^ (23 + k) ≤ x) e (le_trans (le_of_eq (pow-add 2 23 k)) (mul-le-mul_right (2 ^ k) a)) in
        let hi : n < 2 ^ suc (23 + k) = subst (λ (x : ℕ). n < 2 ^ x) (plus k) (subst (λ (x : ℕ). x < 2 ^ (24 + k)) e (shl_lt 24 k b)) in
        at k (ap (λ (x : ℕ). x - 24) (size_exact (23 + k) n lo hi) ∙ over k)
        ∙ ap (λ (x : ℕ). k * 2 ^ 23 + x) (ap (λ (x : ℕ). x / 2 ^ k) (sym e) ∙ mul-div_cancel q (pow_pos k))
      where
        plus : (k : ℕ) → 24 + k ≡ suc (23 + k)
        plus k = omega arith

    top : q ≡ 2 ^ 24 → (size n - 24) * 2 ^ 23 + n / 2 ^ (size n - 24) ≡ k * 2 ^ 23 + q
    top b =
        let is : n ≡ 2 ^ (24 + k) = sym e ∙ ap (λ (x : ℕ). x * 2 ^ k) b ∙ sym (pow-add 2 24 k) in
        let sz : size n ≡ suc (24 + k) = size_exact (24 + k) n (le_of_eq (sym is)) (subst (λ (x : ℕ). x < 2 ^ suc (24 + k)) (sym is) (pow-lt (step (24 + k)))) in
        let half : n ≡ 2 ^ 23 * 2 ^ suc k = is ∙ ap (λ (x : ℕ). 2 ^ x) (shift k) ∙ pow-add 2 23 (suc k) in
        at (suc k) (ap (λ (x : ℕ). x - 24) sz ∙ over' k)
        ∙ ap (λ (x : ℕ). suc k * 2 ^ 23 + x) (ap (λ (x : ℕ). x / 2 ^ suc k) half ∙ mul-div_cancel (2 ^ 23) (pow_pos (suc k)))
        ∙ sum k q b
      where
        step : (a : ℕ) → a < suc a
        step a = omega arith

        shift : (k : ℕ) → 24 + k ≡ 23 + suc k
        shift k = omega arith

        sum : (k q : ℕ) → q ≡ 2 ^ 24 → suc k * 2 ^ 23 + 2 ^ 23 ≡ k * 2 ^ 23 + q
        sum k q h = omega arith

    only : q ≤ 2 ^ 24 → 2 ^ 24 ≤ q → q ≡ 2 ^ 24
    only a b = omega arith

    wider : q < 2 ^ 23 → q < 2 ^ 24
    wider a = omega arith

    clash : 2 ^ 23 ≤ q → q < 2 ^ 23 → ⊥
    clash a b = omega arith

    go : T (ltb q (2 ^ 23)) ⊎ T (not (ltb q (2 ^ 23))) → T (ltb q (2 ^ 24)) ⊎ T (not (ltb q (2 ^ 24))) → (size n - 24) * 2 ^ 23 + n / 2 ^ (size n - 24) ≡ k * 2 ^ 23 + q
    go (inl a) b = elim o [ inl z ↦ low z (wider (ltb→lt q (2 ^ 23) a)) | inr y ↦ absurd (clash y (ltb→lt q (2 ^ 23) a)) ]
    go (inr a) (inl b) = mid (nltb→le q (2 ^ 23) a) (ltb→lt q (2 ^ 24) b)
    go (inr a) (inr b) = top (only h (nltb→le q (2 ^ 24) b))

-- ---- what `units` makes, by its bits
inf_bits : (s : Bool) → inf s ≡ of_bits binary32 (cond s (2 ^ 31) 0 + 255 * 2 ^ 23)
unfolding of_bits
inf_bits true = refl
inf_bits false = refl

units_inf : (s : Bool) (q k : ℕ) → 2 ^ 277 ≤ q * 2 ^ k → units binary32 s q k ≡ inf s
unfolding units
units_inf s q k h = cond_no (ltb (q * 2 ^ k) (2 ^ 277)) (odd 25 s q k 149) (inf s) (no_ltb h)
  where
    no_ltb : 2 ^ 277 ≤ q * 2 ^ k → T (not (ltb (q * 2 ^ k) (2 ^ 277)))
    no_ltb h = le→nltb (q * 2 ^ k) (2 ^ 277) h

-- at the largest exponent only a carry reaches an infinity
edge : (q k : ℕ) → q ≤ 2 ^ 24 → k ≤ 253 → 2 ^ 277 ≤ q * 2 ^ k → k * 2 ^ 23 + q ≡ 255 * 2 ^ 23
edge q k a b h = sum (q_is (k_is (lt_of_not-le small))) (k_is (lt_of_not-le small))
  where
    small : k ≤ 252 → ⊥
    small l = lt_irrefl (2 ^ 276) (lt_of_lt_of_le (lit< tt) (le_trans h (le_trans (mul-le-mul_right (2 ^ k) a) (le_trans (mul-le-mul_left (2 ^ 24) (pow_mono l)) (lit≤ tt)))))

    k_is : 252 < k → k ≡ 253
    k_is l = omega arith

    q_is : k ≡ 253 → 2 ^ 24 ≤ q
    q_is e = le_of_mul-le-mul_right (le_trans (lit≤ tt) (subst (λ (x : ℕ). 2 ^ 277 ≤ q * 2 ^ x) e h)) (pow_pos 253)

    sum : 2 ^ 24 ≤ q → k ≡ 253 → k * 2 ^ 23 + q ≡ 255 * 2 ^ 23
    sum l e = omega arith

units_bits : (s : Bool) (q k : ℕ) → q ≤ 2 ^ 24 → k ≤ 253 → (k ≡ 0) ⊎ (2 ^ 23 ≤ q) → T (fits binary32 (units binary32 s q k)) → units binary32 s q k ≡
    of_bits binary32 (cond s (2 ^ 31) 0 + (k * 2 ^ 23 + q))
units_bits s q k a b o fit = go (ltb (q * 2 ^ k) (2 ^ 277)) (ltb→lt (q * 2 ^ k) (2 ^ 277)) (nltb→le (q * 2 ^ k) (2 ^ 277))
  where
    go : (t : Bool) → (T t → q * 2 ^ k < 2 ^ 277) → (T (not t) → 2 ^ 277 ≤ q * 2 ^ k) → units binary32 s q k ≡ of_bits binary32 (cond s (2 ^ 31) 0 + (k * 2 ^ 23 + q))
    go true y n =
        let z = q * 2 ^ k in
        sym (of_bits-to_bits binary32 (units binary32 s q k) fit)
        ∙ ap (of_bits binary32)
        (bits_of (units binary32 s q k) s z (units_val binary32 s q k (y tt))
        ∙ add_assoc (cond s (2 ^ 31) 0) ((size z - 24) * 2 ^ 23) (z / 2 ^ (size z - 24))
        ∙ ap (λ (x : ℕ). cond s (2 ^ 31) 0 + x) (pattern q k z refl a o))
    go false y n = units_inf s q k (n tt) ∙ inf_bits s ∙ ap (λ (x : ℕ). of_bits binary32 (cond s (2 ^ 31) 0 + x)) (sym (edge q k a b (n tt)))

-- ---- a significand of 53 digits, in the f32's normal range and above it: 29 digits are dropped
module _ (s : Bool) (sig x : ℕ) (lo : 2 ^ 52 ≤ sig) (hi : sig < 2 ^ 53) (in_normal : 896 ≤ x) where
  normal_units : round binary32 s (sig * 2 ^ x) (2 ^ 1074) ≡ units binary32 s (closest sig (2 ^ 29)) (x - 896)
  normal_units =
      let k = x - 896 in
      let n = sig * 2 ^ x * 2 ^ 149 in
      let exps : x + 178 ≡ k + 1074 = omega arith in
      let cross : n * 2 ^ 29 ≡ sig * 2 ^ k * 2 ^ 1074 =
      mul_assoc (sig * 2 ^ x) (2 ^ 149) (2 ^ 29) ∙ mul_assoc sig (2 ^ x) (2 ^ 178) ∙ ap (λ (y : ℕ). sig * y) (pw x 178 k 1074 exps) ∙ sym (mul_assoc sig (2 ^ k) (2 ^ 1074)) in
      let w = sig * 2 ^ k / 2 ^ 29 in
      let e1 : 23 + k + 29 ≡ 52 + k = omega arith in
      let e2 : 53 + k ≡ 24 + k + 29 = omega arith in
      let e3 : 24 + k ≡ suc (23 + k) = omega arith in
      let w_lo : 2 ^ (23 + k) ≤ w = (le-div_iff_mul-le (pow_pos 29)).1 (le_trans (le_of_eq (pw (23 + k) 29 52 k e1)) (mul-le-mul_right (2 ^ k) lo)) in
      let w_hi : w < 2 ^ suc (23 + k) = subst (λ (y : ℕ). w < 2 ^ y) e3 (shr_lt (24 + k) 29 (subst (λ (y : ℕ). sig * 2 ^ k < 2 ^ y) e2 (shl_lt 53 k hi))) in
      round_at s (sig * 2 ^ x) (2 ^ 1074) k (closest sig (2 ^ 29))
      (ap (λ (y : ℕ). size y - 24) (div_same n (2 ^ 1074) (sig * 2 ^ k) (2 ^ 29) (pow_pos 1074) (pow_pos 29) cross) ∙ ap (λ (y : ℕ). y - 24)
      (size_exact (23 + k) w w_lo w_hi) ∙ over k)
      (closest_same n (2 ^ 1074 * 2 ^ k) sig (2 ^ 29) (mul-pos (pow_pos 1074) (pow_pos k)) (pow_pos 29) (cross ∙ mul_assoc sig (2 ^ k) (2 ^ 1074) ∙ ap
      (λ (y : ℕ). sig * y) (mul_comm (2 ^ k) (2 ^ 1074))))

  kept_hi : closest sig (2 ^ 29) ≤ 2 ^ 24
  kept_hi = le_trans (nearest-le (sig / 2 ^ 29) (compare (sig % 2 ^ 29 * 2) (2 ^ 29))) (shr_lt 24 29 hi)

  kept_lo : 2 ^ 23 ≤ closest sig (2 ^ 29)
  kept_lo = le_trans ((le-div_iff_mul-le {k = 2 ^ 29} (pow_pos 29)).1 lo) (nearest-ge (sig / 2 ^ 29) (compare (sig % 2 ^ 29 * 2) (2 ^ 29)))

  normal : x ≤ 1149 → nearest_binary32 (odd 53 s sig x 1074) ≡ of_bits binary32 (cond s (2 ^ 31) 0 + ((x - 896) * 2 ^ 23 + closest sig (2 ^ 29)))
  normal h =
      let b : x - 896 ≤ 253 = omega arith in
      nearest_binary32_odd s sig x
      ∙ normal_units
      ∙ units_bits s (closest sig (2 ^ 29)) (x - 896) kept_hi b (inr kept_lo)
      (subst (λ (v : Float). T (fits binary32 v)) normal_units (round-fits binary32 s (sig * 2 ^ x) (2 ^ 1074)))

  huge : 1150 ≤ x → nearest_binary32 (odd 53 s sig x 1074) ≡ inf s
  huge h =
      let b : 254 ≤ x - 896 = omega arith in
      nearest_binary32_odd s sig x
      ∙ normal_units
      ∙ units_inf s (closest sig (2 ^ 29)) (x - 896) (le_trans (le_trans (lit≤ tt) (mul-le-mul_left (2 ^ 23) (pow_mono b))) (mul-le-mul_right (2 ^ (x - 896)) kept_lo))

-- ---- below the normal range the unit is fixed
subnormal : (s : Bool) (sig x : ℕ) → sig < 2 ^ 53 → x ≤ 895 → nearest_binary32 (odd 53 s sig x 1074) ≡ of_bits binary32 (cond s (2 ^ 31) 0 + closest sig (2 ^ (925 - x)))
subnormal s sig x hi h =
    let r = 925 - x in
    let n = sig * 2 ^ x * 2 ^ 149 in
    let exps : x + (149 + r) ≡ 1074 = omega arith in
    let e1 : 53 ≤ 24 + r = omega arith in
    let cross : n * 2 ^ r ≡ sig * 2 ^ 1074 =
    mul_assoc (sig * 2 ^ x) (2 ^ 149) (2 ^ r) ∙ mul_assoc sig (2 ^ x) (2 ^ 149 * 2 ^ r) ∙ ap (λ (y : ℕ). sig * y) (ap (λ (y : ℕ). 2 ^ x * y) (sym
    (pow-add 2 149 r)) ∙ sym (pow-add 2 x (149 + r)) ∙ ap (λ (y : ℕ). 2 ^ y) exps) in
    let w_lt : sig / 2 ^ r < 2 ^ 24 = shr_lt 24 r (lt_of_lt_of_le hi (pow_mono e1)) in
    let is : round binary32 s (sig * 2 ^ x) (2 ^ 1074) ≡ units binary32 s (closest sig (2 ^ r)) 0 =
    round_at s (sig * 2 ^ x) (2 ^ 1074) 0 (closest sig (2 ^ r))
    (ap (λ (y : ℕ). size y - 24) (div_same n (2 ^ 1074) sig (2 ^ r) (pow_pos 1074) (pow_pos r) cross) ∙ none (size (sig / 2 ^ r)) (size-le (sig / 2 ^ r) 24 w_lt))
    (closest_same n (2 ^ 1074) sig (2 ^ r) (pow_pos 1074) (pow_pos r) cross) in
    let q_le : closest sig (2 ^ r) ≤ 2 ^ 24 = le_trans (nearest-le (sig / 2 ^ r) (compare (sig % 2 ^ r * 2) (2 ^ r))) w_lt in
    nearest_binary32_odd s sig x
    ∙ is
    ∙ units_bits s (closest sig (2 ^ r)) 0 q_le (lit≤ tt) (inl refl) (subst (λ (v : Float). T (fits binary32 v)) is (round-fits binary32 s (sig * 2 ^ x) (2 ^ 1074)))
    ∙ ap (λ (y : ℕ). of_bits binary32 (cond s (2 ^ 31) 0 + y)) (zero-add (closest sig (2 ^ r)))

-- ---- by the fields of the f64: the exponent's field e and the digits d
NearestIs : Bool → ℕ → ℕ → ℕ → Type 0
NearestIs s e d w = nearest_binary32 (of_fields binary64 s e d) ≡ of_bits binary32 (cond s (2 ^ 31) 0 + w)

under_top : (s : Bool) (x d : ℕ) → suc x < 2047 → of_fields binary64 s (suc x) d ≡ odd 53 s (2 ^ 52 + d) x 1074
unfolding of_fields
under_top s x d h = cond_no (eqb (suc x) 2047) (cond (eqb d 0) (inf s) nan) (odd 53 s (2 ^ 52 + d) x 1074) (no_eqb (ne h))
  where
    ne : suc x < 2047 → suc x ≡ 2047 → ⊥
    ne h e = omega arith

with_lead : (d : ℕ) → d < 2 ^ 52 → 2 ^ 52 + d < 2 ^ 53
with_lead d h = omega arith

lead : (d : ℕ) → 2 ^ 52 ≤ 2 ^ 52 + d
lead d = omega arith

no_zero : {n : ℕ} → suc n ≤ 0 → ⊥
no_zero h = omega arith

at_normal : (s : Bool) (e d : ℕ) → d < 2 ^ 52 → 897 ≤ e → e < 1151 → NearestIs s e d ((e - 897) * 2 ^ 23 + closest (2 ^ 52 + d) (2 ^ 29))
unfolding NearestIs
at_normal s zero d D a b = absurd (no_zero a)
at_normal s (suc x) d D a b =
    let a' : 896 ≤ x = omega arith in
    let b' : x ≤ 1149 = omega arith in
    let t : suc x < 2047 = omega arith in
    let e : x - 896 ≡ suc x - 897 = omega arith in
    ap nearest_binary32 (under_top s x d t)
    ∙ normal s (2 ^ 52 + d) x (lead d) (with_lead d D) a' b'
    ∙ ap (λ (y : ℕ). of_bits binary32 (cond s (2 ^ 31) 0 + (y * 2 ^ 23 + closest (2 ^ 52 + d) (2 ^ 29)))) e

at_low : (s : Bool) (e d : ℕ) → d < 2 ^ 52 → 0 < e → e < 897 → NearestIs s e d (closest (2 ^ 52 + d) (2 ^ (926 - e)))
unfolding NearestIs
at_low s zero d D a b = absurd (no_zero a)
at_low s (suc x) d D a b =
    let b' : x ≤ 895 = omega arith in
    let t : suc x < 2047 = omega arith in
    let e : 925 - x ≡ 926 - suc x = omega arith in
    ap nearest_binary32 (under_top s x d t) ∙ subnormal s (2 ^ 52 + d) x (with_lead d D) b' ∙ ap (λ (y : ℕ). of_bits binary32 (cond s (2 ^ 31) 0 + closest (2 ^ 52 + d) (2 ^ y))) e

at_zero : (s : Bool) (d : ℕ) → of_fields binary64 s 0 d ≡ odd 53 s d 0 1074
unfolding of_fields
at_zero s d = refl

at_tiny : (s : Bool) (e d : ℕ) → d < 2 ^ 52 → e < 872 → NearestIs s e d 0
unfolding NearestIs
at_tiny s zero d D b =
    let w : d < 2 ^ 53 = omega arith in
    ap nearest_binary32 (at_zero s d) ∙ subnormal s d 0 w (lit≤ tt) ∙ ap (λ (y : ℕ). of_bits binary32 (cond s (2 ^ 31) 0 + y)) (closest_zero d (2 ^ 925)
    (lt_of_lt_of_le (twice d w) (lit≤ tt)))
  where
    twice : (d : ℕ) → d < 2 ^ 53 → d * 2 < 2 ^ 54
    twice d h = omega arith
at_tiny s (suc x) d D b =
    let p : 0 < suc x = omega arith in
    let b' : suc x < 897 = omega arith in
    let r : 54 ≤ 926 - suc x = omega arith in
    at_low s (suc x) d D p b' ∙ ap (λ (y : ℕ). of_bits binary32 (cond s (2 ^ 31) 0 + y)) (closest_zero (2 ^ 52 + d) (2 ^ (926 - suc x)) (lt_of_lt_of_le (twice d D) (pow_mono r)))
  where
    twice : (d : ℕ) → d < 2 ^ 52 → (2 ^ 52 + d) * 2 < 2 ^ 54
    twice d h = omega arith

inf_of : (s : Bool) → nearest_binary32 (of_fields binary64 s 2047 0) ≡ inf s
unfolding of_fields nearest_binary32
inf_of s = refl

nan_of : (s : Bool) (d : ℕ) → 0 < d → nearest_binary32 (of_fields binary64 s 2047 d) ≡ nan
unfolding of_fields nearest_binary32
nan_of s d h = ap nearest_binary32 (cond_no (eqb d 0) (inf s) nan (no_eqb (ne h)))
  where
    ne : 0 < d → d ≡ 0 → ⊥
    ne h e = omega arith

nan_bits : (s : Bool) → nan ≡ of_bits binary32 (cond s (2 ^ 31) 0 + 0x7fc0_0000)
unfolding of_bits
nan_bits true = refl
nan_bits false = refl

at_top : (s : Bool) (e d : ℕ) → d < 2 ^ 52 → 1151 ≤ e → e ≤ 2047 → (e ≡ 2047 → d ≡ 0) → NearestIs s e d 0x7f80_0000
unfolding NearestIs
at_top s zero d D a b z = absurd (no_zero a)
at_top s (suc x) d D a b z = go (ltb (suc x) 2047) (ltb→lt (suc x) 2047) (nltb→le (suc x) 2047)
  where
    only : suc x ≤ 2047 → 2047 ≤ suc x → suc x ≡ 2047
    only h k = omega arith

    go : (t : Bool) → (T t → suc x < 2047) → (T (not t) → 2047 ≤ suc x) → nearest_binary32 (of_fields binary64 s (suc x) d) ≡ of_bits binary32 (cond s (2 ^ 31) 0 + 0x7f80_0000)
    go true y n =
        let a' : 896 ≤ x = omega arith in
        let b' : 1150 ≤ x = omega arith in
        ap nearest_binary32 (under_top s x d (y tt)) ∙ huge s (2 ^ 52 + d) x (lead d) (with_lead d D) a' b' ∙ inf_bits s
    go false y n =
        let e : suc x ≡ 2047 = only b (n tt) in
        ap (λ (k : ℕ). nearest_binary32 (of_fields binary64 s k d)) e ∙ ap (λ (k : ℕ). nearest_binary32 (of_fields binary64 s 2047 k)) (z e) ∙ inf_of s ∙ inf_bits s

-- ---- by the bits m of the magnitude, whichever the sign s
fields : (s : Bool) (m : ℕ) → m < 2 ^ 63 → of_bits binary64 (cond s (2 ^ 63) 0 + m) ≡ of_fields binary64 s (m / 2 ^ 52) (m % 2 ^ 52)
unfolding of_bits
fields true m fit =
    let e : (2 ^ 63 + m) % 2 ^ 63 / 2 ^ 52 ≡ m / 2 ^ 52 = omega arith in
    let d : (2 ^ 63 + m) % 2 ^ 52 ≡ m % 2 ^ 52 = omega arith in
    let h : 2 ^ 63 ≤ 2 ^ 63 + m = omega arith in
    ap (λ (b : Bool). of_fields binary64 b ((2 ^ 63 + m) % 2 ^ 63 / 2 ^ 52) ((2 ^ 63 + m) % 2 ^ 52)) (le-leb _ _ h)
    ∙ ap (λ (k : ℕ). of_fields binary64 true k ((2 ^ 63 + m) % 2 ^ 52)) e
    ∙ ap (λ (k : ℕ). of_fields binary64 true (m / 2 ^ 52) k) d
fields false m fit =
    let e : (0 + m) % 2 ^ 63 / 2 ^ 52 ≡ m / 2 ^ 52 = omega arith in
    let d : (0 + m) % 2 ^ 52 ≡ m % 2 ^ 52 = omega arith in
    let h : 0 + m < 2 ^ 63 = omega arith in
    ap (λ (b : Bool). of_fields binary64 b ((0 + m) % 2 ^ 63 / 2 ^ 52) ((0 + m) % 2 ^ 52)) (lt-leb _ _ h)
    ∙ ap (λ (k : ℕ). of_fields binary64 false k ((0 + m) % 2 ^ 52)) e
    ∙ ap (λ (k : ℕ). of_fields binary64 false (m / 2 ^ 52) k) d

module _ (m : ℕ) (fit : m < 2 ^ 63) where
  -- the f32 with the bits w is the nearest to the f64 with the bits m
  abbrev To : ℕ → Type 0
  To w = (s : Bool) → of_bits binary32 (cond s (2 ^ 31) 0 + w) ≡ nearest_binary32 (of_bits binary64 (cond s (2 ^ 63) 0 + m))

  to : (w : ℕ) → ((s : Bool) → NearestIs s (m / 2 ^ 52) (m % 2 ^ 52) w) → To w
  unfolding NearestIs
  to w h s = sym (ap nearest_binary32 (fields s m fit) ∙ h s)

  D : m % 2 ^ 52 < 2 ^ 52
  D = omega arith

  pub to_nan : 0x7ff0_0000_0000_0000 < m → To 0x7fc0_0000
  unfolding NearestIs
  to_nan h =
      let x : m / 2 ^ 52 ≡ 2047 = omega arith in
      let y : 0 < m % 2 ^ 52 = omega arith in
      to 0x7fc0_0000 (λ (s : Bool). ap (λ (k : ℕ). nearest_binary32 (of_fields binary64 s k (m % 2 ^ 52))) x ∙ nan_of s (m % 2 ^ 52) y ∙ nan_bits s)

  pub to_infinity : m ≤ 0x7ff0_0000_0000_0000 → 1151 ≤ m / 2 ^ 52 → To 0x7f80_0000
  to_infinity h l =
      let x : m / 2 ^ 52 ≤ 2047 = omega arith in
      to 0x7f80_0000 (λ (s : Bool). at_top s (m / 2 ^ 52) (m % 2 ^ 52) D l x (λ (q : m / 2 ^ 52 ≡ 2047). omega arith))

  pub to_normal : 897 ≤ m / 2 ^ 52 → m / 2 ^ 52 < 1151 → {q : ℕ} → q ≡ closest (2 ^ 52 + m % 2 ^ 52) (2 ^ 29) → To ((m / 2 ^ 52 - 897) * 2 ^ 23 + q)
  to_normal a b e = subst (λ (q : ℕ). To ((m / 2 ^ 52 - 897) * 2 ^ 23 + q)) (sym e) (to _ (λ (s : Bool). at_normal s (m / 2 ^ 52) (m % 2 ^ 52) D a b))

  pub to_subnormal : 872 ≤ m / 2 ^ 52 → m / 2 ^ 52 < 897 → {q : ℕ} → q ≡ closest (2 ^ 52 + m % 2 ^ 52) (2 ^ (926 - m / 2 ^ 52)) → To q
  to_subnormal a b e =
      let p : 0 < m / 2 ^ 52 = omega arith in
      subst To (sym e) (to _ (λ (s : Bool). at_low s (m / 2 ^ 52) (m % 2 ^ 52) D p b))

  pub to_zero : m / 2 ^ 52 < 872 → To 0
  to_zero b = to 0 (λ (s : Bool). at_tiny s (m / 2 ^ 52) (m % 2 ^ 52) D b)
