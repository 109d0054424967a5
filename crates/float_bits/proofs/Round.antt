-- The nearest whole number to n / u, by how the rest compares with what it lacks of u; and what a shift by r leaves.
use mathlib.Core.Path.{◌≡◌, refl, sym, ap, ◌∙◌, subst}
use Prim.Native.Nat.{ℕ, suc, ◌+◌, ◌*◌, ◌/◌, ◌%◌, ◌^◌, ◌<◌, ◌≤◌, compare, Ordering}
use mathlib.Core.Bool.{not}
use native.Mathlib.Omega.{arith}
use native.Mathlib.Nat.{le_trans, one-mul, mod-eq_of_lt, mod-lt, div-add-mod', mul-le-mul_left, div-eq_of_lt}
use lib.Dec.{T, is_le, compare_is_eq, eqb, leb→le, nleb→lt, eqb→eq, eqb_refl}
use lib.Arith.{lt_of_le-ne}
use lib.Pow.{pow-lt, pow_pos, pow_mono, shr_lt}
use lib.Ieee.Fits.{nearest-le}
use lib.Ieee.{nearest}
use lib.Ieee.Nearest.{closest}

abbrev Cmp : Ordering → ℕ → ℕ → Type 0
Cmp Ordering.lt a b = a < b
Cmp Ordering.eq a b = a ≡ b
Cmp Ordering.gt a b = b < a

cmp : (a b : ℕ) → Cmp (compare a b) a b
cmp a b = go (compare a b) (leb→le a b) (nleb→lt a b) (eqb→eq a b) (λ (e : a ≡ b). subst (λ (x : ℕ). T (eqb a x)) e (eqb_refl a))
  where
    go : (o : Ordering) → (T (is_le o) → a ≤ b) → (T (not (is_le o)) → b < a) → (T (compare_is_eq o) → a ≡ b) → (a ≡ b → T (compare_is_eq o)) → Cmp o a b
    go Ordering.lt h k e n = lt_of_le-ne (h tt) n
    go Ordering.eq h k e n = e tt
    go Ordering.gt h k e n = k tt

both_lt : (a b : ℕ) → a < b → b < a → ⊥
both_lt a b h k = omega arith

lt_eq : (a b : ℕ) → a < b → a ≡ b → ⊥
lt_eq a b h k = omega arith

gt_eq : (a b : ℕ) → b < a → a ≡ b → ⊥
gt_eq a b h k = omega arith

is_lt : (o : Ordering) (a b : ℕ) → Cmp o a b → a < b → o ≡ Ordering.lt
is_lt Ordering.lt a b c h = refl
is_lt Ordering.eq a b c h = absurd (lt_eq a b h c)
is_lt Ordering.gt a b c h = absurd (both_lt a b h c)

is_gt : (o : Ordering) (a b : ℕ) → Cmp o a b → b < a → o ≡ Ordering.gt
is_gt Ordering.lt a b c h = absurd (both_lt a b c h)
is_gt Ordering.eq a b c h = absurd (gt_eq a b h c)
is_gt Ordering.gt a b c h = refl

is_eq : (o : Ordering) (a b : ℕ) → Cmp o a b → a ≡ b → o ≡ Ordering.eq
is_eq Ordering.lt a b c h = absurd (lt_eq a b c h)
is_eq Ordering.eq a b c h = refl
is_eq Ordering.gt a b c h = absurd (gt_eq a b c h)

pub closest_below : (n u : ℕ) → n % u * 2 < u → closest n u ≡ n / u
closest_below n u h = ap (nearest (n / u)) (is_lt (compare (n % u * 2) u) (n % u * 2) u (cmp (n % u * 2) u) h)

pub closest_above : (n u : ℕ) → u < n % u * 2 → closest n u ≡ suc (n / u)
closest_above n u h = ap (nearest (n / u)) (is_gt (compare (n % u * 2) u) (n % u * 2) u (cmp (n % u * 2) u) h)

pub closest_tie : (n u : ℕ) → n % u * 2 ≡ u → closest n u ≡ n / u + n / u % 2
closest_tie n u h = ap (nearest (n / u)) (is_eq (compare (n % u * 2) u) (n % u * 2) u (cmp (n % u * 2) u) h)

-- less than a half rounds to 0
pub closest_zero : (n u : ℕ) → n * 2 < u → closest n u ≡ 0
closest_zero n u h =
    let l : n < u = omega arith in
    closest_below n u (subst (λ (x : ℕ). x * 2 < u) (sym (mod-eq_of_lt l)) h) ∙ div-eq_of_lt l

-- what the code of `shift_to_nearest` has at hand
pub record Shifted (n r : ℕ) : Type 0 where
  pub unit : (1 * 2 ^ r) % 2 ^ 64 ≡ 2 ^ r
  pub back : n / 2 ^ r * ((1 * 2 ^ r) % 2 ^ 64) + n % 2 ^ r ≡ n
  pub rest : n % 2 ^ r < 2 ^ r
  pub less : n / 2 ^ r * 2 ≤ n

le_sum : (a b c d : ℕ) → a ≤ b → b + c ≡ d → a ≤ d
le_sum a b c d h k = omega arith

pub shifted : (n r : ℕ) → 0 < r → r < 64 → Shifted n r
shifted n r p h =
    let e : (1 * 2 ^ r) % 2 ^ 64 ≡ 2 ^ r = ap (λ (x : ℕ). x % 2 ^ 64) (one-mul (2 ^ r)) ∙ mod-eq_of_lt (pow-lt h) in
    let d : n / 2 ^ r * 2 ^ r + n % 2 ^ r ≡ n = div-add-mod' n (2 ^ r) in
    record {
      unit = e;
      back = ap (λ (x : ℕ). n / 2 ^ r * x + n % 2 ^ r) e ∙ d;
      rest = mod-lt n (pow_pos r);
      less = le_sum (n / 2 ^ r * 2) (n / 2 ^ r * 2 ^ r) (n % 2 ^ r) n (mul-le-mul_left (n / 2 ^ r) (pow_mono p)) d;
    }

-- a number of j + r digits, shifted by r
pub closest_le : (n r j : ℕ) → n < 2 ^ (j + r) → closest n (2 ^ r) ≤ 2 ^ j
closest_le n r j h = le_trans (nearest-le (n / 2 ^ r) (compare (n % 2 ^ r * 2) (2 ^ r))) (shr_lt j r h)
