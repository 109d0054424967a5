-- The ranges of the integer kinds, for every kind at once. Assumes nothing.
use mathlib.Core.Path.{◌≡◌, refl, sym, ap, ◌∙◌, subst}
use mathlib.Core.Bool.{Bool, true, false, cond}
use Prim.Native.Nat.{ℕ, zero, suc, ◌-◌, ◌^◌, ◌<◌, ◌≤◌}
use native.Mathlib.Omega.{arith}
use native.Mathlib.Nat.{lt_of_lt_of_le}
use lib.Dec.{leb, lit<, leb-zero, leb-suc-zero}
use lib.Pow.{pow_pos}
use lib.IntN.{ℤ, pos, negsuc, neg_ℤ}
use lib.Signed.{mag}
use borrow.Author.Tests.{leb-true, lt-leb, le-leb}
use Rattle.std.specs.Prelude.{Ok, Err}
use Rattle.numbers.specs.declared.IntKind.{IntKind}
use Rattle.numbers.specs.declared.IntKind.TheVariants.{I64, U64, I32, U32, U8, I8, U16, I16}
use Rattle.numbers.specs.declared.NumberFault.TheVariants.{Overflow}
use Rattle.numbers.specs.Kinds.{least_magnitude, greatest, is_signed, bits_of, in_range, as_kind}
use Rattle.numbers.specs.Answers.{pick}
use Rattle.numbers.specs.Arithmetic.{checked}
use Rattle.numbers.proofs.Signs.{signed, no}

pub in_range_neg : (k : IntKind) (n : ℕ) → leb n (least_magnitude k) ≡ in_range k (neg_ℤ (pos n))
in_range_neg k zero = leb-zero (least_magnitude k) ∙ sym (leb-zero (greatest k))
in_range_neg k (suc n) = refl

less_one : (n p : ℕ) → 0 < p → n ≤ p - 1 → n < p
less_one n p P h = omega arith

-- a kind with a sign: the magnitude, less one for a negative number, is below 2^(bits-1)
pub in_signed : (k : IntKind) (z : ℤ) → is_signed k ≡ true → in_range k z ≡ true → mag z < 2 ^ (bits_of k - 1)
in_signed k (pos n) s h =
    less_one n (2 ^ (bits_of k - 1)) (pow_pos (bits_of k - 1)) (leb-true _ _ (subst (λ (b : Bool). leb n (cond b (2 ^ (bits_of k - 1)) (2 ^ bits_of k) - 1) ≡ true) s h))
in_signed k (negsuc n) s h = leb-true _ _ (subst (λ (b : Bool). leb (suc n) (cond b (2 ^ (bits_of k - 1)) 0) ≡ true) s h)

-- and back
pub signed_in : (k : IntKind) (z : ℤ) → is_signed k ≡ true → mag z < 2 ^ (bits_of k - 1) → in_range k z ≡ true
signed_in k (pos n) s l = subst (λ (b : Bool). leb n (cond b (2 ^ (bits_of k - 1)) (2 ^ bits_of k) - 1) ≡ true) (sym s) (le-leb n (2 ^ (bits_of k - 1) - 1) (omega arith))
signed_in k (negsuc n) s l = subst (λ (b : Bool). leb (suc n) (cond b (2 ^ (bits_of k - 1)) 0) ≡ true) (sym s) (le-leb (suc n) (2 ^ (bits_of k - 1)) l)

-- a kind without one
pub in_unsigned : (k : IntKind) (n : ℕ) → is_signed k ≡ false → in_range k (pos n) ≡ true → n < 2 ^ bits_of k
in_unsigned k n e h =
    less_one n (2 ^ bits_of k) (pow_pos (bits_of k)) (leb-true _ _ (subst (λ (b : Bool). leb n (cond b (2 ^ (bits_of k - 1)) (2 ^ bits_of k) - 1) ≡ true) e h))

pub no_negative : {X : Type 0} (k : IntKind) (n : ℕ) → is_signed k ≡ false → in_range k (negsuc n) ≡ true → X
no_negative k n e h = no (sym (leb-suc-zero n) ∙ subst (λ (b : Bool). leb (suc n) (cond b (2 ^ (bits_of k - 1)) 0) ≡ true) e h)

-- no kind reaches 2^64
ends : (k : IntKind) → (least_magnitude k < 2 ^ 64) × (greatest k < 2 ^ 64)
ends I64 = (lit< tt, lit< tt)
ends U64 = (lit< tt, lit< tt)
ends I32 = (lit< tt, lit< tt)
ends U32 = (lit< tt, lit< tt)
ends U8 = (lit< tt, lit< tt)
ends I8 = (lit< tt, lit< tt)
ends U16 = (lit< tt, lit< tt)
ends I16 = (lit< tt, lit< tt)

pub outside : (k : IntKind) (s : Bool) (n : ℕ) → 2 ^ 64 ≤ n → in_range k (signed s n) ≡ false
outside k false n h = lt-leb _ _ (lt_of_lt_of_le (ends k).1 h)
outside k true n h = sym (in_range_neg k n) ∙ lt-leb _ _ (lt_of_lt_of_le (ends k).0 h)

pub beyond : (k : IntKind) (s : Bool) (n : ℕ) → 2 ^ 64 ≤ n → checked k (signed s n) ≡ Err Overflow
unfolding checked
beyond k s n h = ap (λ (b : Bool). pick b (Ok (as_kind k (signed s n))) (Err Overflow)) (outside k s n h)
