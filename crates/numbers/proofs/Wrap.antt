-- Wrapping: the low bits of an integer in two's complement, read as a number of a kind. For every kind. Assumes nothing.
use mathlib.Core.Path.{◌≡◌, refl, sym, ap, ◌∙◌}
use mathlib.Core.Bool.{Bool, true, false, cond}
use Prim.Native.Nat.{ℕ, zero, suc, ◌+◌, ◌-◌, ◌*◌, ◌/◌, ◌%◌, ◌^◌, ◌<◌, ◌≤◌}
use native.Mathlib.Omega.{arith}
use native.Mathlib.Nat.{mod-eq_of_lt, mod-lt, pow-suc, add-mul, div-add-mod'}
use lib.Arith.{comp_comp}
use lib.Pow.{pow_pos, pow-add, low, shr_lt, mod-mod-pow}
use lib.IntN.{ℤ, pos, negsuc, neg_ℤ}
use lib.Signed.{mag}
use borrow.Author.Tests.{lt-ltb, le-ltb}
use Rattle.numbers.specs.declared.IntKind.{IntKind}
use Rattle.numbers.specs.declared.IntKind.TheVariants.{I64, U64, I32, U32, U8, I8, U16, I16}
use Rattle.numbers.specs.Kinds.{bits_of, is_signed, in_range, low_bits, twos_complement, wrapping}
use Rattle.numbers.proofs.Ranges.{in_signed, in_unsigned, no_negative}

-- ---- fewer low bits of more low bits
-- with M = 2^b and J = 2^j: J * M - 1 - a is J - 1 - a / M times M, and M - 1 - a % M
complement : (j b a : ℕ) → a < 2 ^ (j + b) → (2 ^ (j + b) - suc a) % 2 ^ b ≡ 2 ^ b - suc (a % 2 ^ b)
complement j b a h =
    let q = a / 2 ^ b in
    let l : a / 2 ^ b < 2 ^ j = shr_lt j b h in
    let d : a / 2 ^ b * 2 ^ b + a % 2 ^ b ≡ a = div-add-mod' a (2 ^ b) in
    let r : a % 2 ^ b < 2 ^ b = mod-lt a (pow_pos b) in
    ap (λ (n : ℕ). n % 2 ^ b) (parts (2 ^ b) (2 ^ j) (a / 2 ^ b) (a % 2 ^ b) a (2 ^ (j + b)) l r d (pow-add 2 j b))
    ∙ low (2 ^ j - suc (a / 2 ^ b)) b (smaller (2 ^ b) (a % 2 ^ b) r)
  where
    smaller : (M r : ℕ) → r < M → M - suc r < M
    smaller M r h = omega arith

    above : (J q : ℕ) → q < J → J ≡ J - suc q + suc q
    above J q h = omega arith

    sum : (D P M r a N : ℕ) → P + r ≡ a → r < M → N ≡ D + (M + P) → N - suc a ≡ D + (M - suc r)
    sum D P M r a N e l k = omega arith

    parts : (M J q r a N : ℕ) → q < J → r < M → q * M + r ≡ a → N ≡ J * M → N - suc a ≡ (J - suc q) * M + (M - suc r)
    parts M J q r a N l h e k =
        sum ((J - suc q) * M) (q * M) M r a N e h
        (k ∙ ap (λ (x : ℕ). x * M) (above J q l) ∙ add-mul (J - suc q) (suc q) M ∙ ap (λ (x : ℕ). (J - suc q) * M + x) (more q M))
      where
        more : (q M : ℕ) → suc q * M ≡ M + q * M
        more q M = ap (λ (x : ℕ). x * M) (one q) ∙ add-mul 1 q M ∙ ap (λ (x : ℕ). x + q * M) (times M)
          where
            one : (q : ℕ) → suc q ≡ 1 + q
            one q = omega arith

            times : (M : ℕ) → 1 * M ≡ M
            times M = omega arith

low_low : (j b : ℕ) (z : ℤ) → low_bits b (pos (low_bits (j + b) z)) ≡ low_bits b z
low_low j b (pos n) = mod-mod-pow n j b
low_low j b (negsuc n) = complement j b (n % 2 ^ (j + b)) (mod-lt n (pow_pos (j + b))) ∙ ap (λ (k : ℕ). 2 ^ b - suc k) (mod-mod-pow n j b)

pub low_of_64 : (k : IntKind) (z : ℤ) → low_bits (bits_of k) (pos (low_bits 64 z)) ≡ low_bits (bits_of k) z
low_of_64 I64 z = low_low 0 64 z
low_of_64 U64 z = low_low 0 64 z
low_of_64 I32 z = low_low 32 32 z
low_of_64 U32 z = low_low 32 32 z
low_of_64 U8 z = low_low 56 8 z
low_of_64 I8 z = low_low 56 8 z
low_of_64 U16 z = low_low 48 16 z
low_of_64 I16 z = low_low 48 16 z

-- a number wraps by its low 64 bits alone
pub wrapping_word : (k : IntKind) (z : ℤ) {w : ℕ} → w ≡ low_bits 64 z → wrapping k (pos w) ≡ wrapping k z
unfolding wrapping
wrapping_word k z e =
    ap (λ (n : ℕ). wrapping k (pos n)) e ∙ ap (λ (n : ℕ). cond (is_signed k) (twos_complement (bits_of k - 1) n) (pos n)) (low_of_64 k z)

-- ---- a number in range wraps to itself
itself : (h : ℕ) (z : ℤ) → mag z < 2 ^ h → twos_complement h (low_bits (suc h) z) ≡ z
itself h (pos n) l =
    let t : 2 ^ suc h ≡ 2 ^ h * 2 = pow-suc 2 h in
    let a : n < 2 ^ suc h = omega arith in
    ap (twos_complement h) (mod-eq_of_lt a) ∙ ap (λ (b : Bool). cond b (pos n) (negsuc (2 ^ suc h - suc n))) (lt-ltb n (2 ^ h) l)
itself h (negsuc n) l =
    let t : 2 ^ suc h ≡ 2 ^ h * 2 = pow-suc 2 h in
    let a : n < 2 ^ suc h = omega arith in
    let b : 2 ^ h ≤ 2 ^ suc h - suc n = omega arith in
    ap (λ (k : ℕ). twos_complement h (2 ^ suc h - suc k)) (mod-eq_of_lt a)
    ∙ ap (λ (b : Bool). cond b (pos (2 ^ suc h - suc n)) (negsuc (2 ^ suc h - suc (2 ^ suc h - suc n)))) (le-ltb (2 ^ suc h - suc n) (2 ^ h) b)
    ∙ ap negsuc (comp_comp a)

one_bit : (k : IntKind) → suc (bits_of k - 1) ≡ bits_of k
one_bit I64 = refl
one_bit U64 = refl
one_bit I32 = refl
one_bit U32 = refl
one_bit U8 = refl
one_bit I8 = refl
one_bit U16 = refl
one_bit I16 = refl

with_sign : (k : IntKind) (z : ℤ) → is_signed k ≡ true → in_range k z ≡ true → wrapping k z ≡ z
unfolding wrapping
with_sign k z e h =
    ap (λ (b : Bool). cond b (twos_complement (bits_of k - 1) (low_bits (bits_of k) z)) (pos (low_bits (bits_of k) z))) e
    ∙ ap (λ (n : ℕ). twos_complement (bits_of k - 1) (low_bits n z)) (sym (one_bit k))
    ∙ itself (bits_of k - 1) z (in_signed k z e h)

without_sign : (k : IntKind) (z : ℤ) → is_signed k ≡ false → in_range k z ≡ true → wrapping k z ≡ z
unfolding wrapping
without_sign k (negsuc n) e h = no_negative k n e h
without_sign k (pos n) e h =
    ap (λ (b : Bool). cond b (twos_complement (bits_of k - 1) (n % 2 ^ bits_of k)) (pos (n % 2 ^ bits_of k))) e ∙ ap pos (mod-eq_of_lt (in_unsigned k n e h))

pub wrapping_in : (k : IntKind) (z : ℤ) → in_range k z ≡ true → wrapping k z ≡ z
wrapping_in k z h = go (is_signed k) refl
  where
    go : (b : Bool) → is_signed k ≡ b → wrapping k z ≡ z
    go true e = with_sign k z e h
    go false e = without_sign k z e h

-- ---- the words of a number and its negative at 64 bits
low_neg : (n : ℕ) → low_bits 64 (neg_ℤ (pos n)) ≡ (2 ^ 64 - n % 2 ^ 64) % 2 ^ 64
low_neg zero = refl
low_neg (suc k) = omega arith

pub word_pos : (n : ℕ) → n < 2 ^ 64 → n ≡ low_bits 64 (pos n)
word_pos n h = sym (mod-eq_of_lt h)

-- the word of -n, from the word of n
pub neg_word : (n w : ℕ) → w ≡ n % 2 ^ 64 → low_bits 64 (neg_ℤ (pos w)) ≡ low_bits 64 (neg_ℤ (pos n))
neg_word n w e = low_neg w ∙ ap (λ (k : ℕ). (2 ^ 64 - k) % 2 ^ 64) (again n w e) ∙ sym (low_neg n)
  where
    again : (n w : ℕ) → w ≡ n % 2 ^ 64 → w % 2 ^ 64 ≡ n % 2 ^ 64
    again n w e = omega arith
