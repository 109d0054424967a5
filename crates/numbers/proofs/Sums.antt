-- The sum, the product and the quotient of signs and magnitudes, and what a product past 64 bits says. Assumes nothing.
use mathlib.Core.Path.{◌≡◌, refl, sym, ap, ◌∙◌}
use mathlib.Core.Bool.{Bool, true, false, beq}
use Prim.Native.Nat.{ℕ, zero, suc, ◌+◌, ◌-◌, ◌*◌, ◌/◌, ◌≤◌}
use native.Mathlib.Omega.{arith}
use native.Mathlib.Nat.{mul-zero, zero-mul, zero-div}
use lib.IntN.{ℤ, pos, neg_ℤ, nat_abs, ◌+ℤ◌, ◌*ℤ◌, neg_ℤ-neg_ℤ, neg_ℤ-+ℤ, +ℤ-neg_ℤ_cancel, +ℤ_comm}
use lib.Signed.{quot_z}
use lib.Ieee.{unlike}
use borrow.Author.Tests.{eq-eqb, ne_eqb}
use Rattle.std.specs.Prelude.{Err}
use Rattle.numbers.specs.declared.IntKind.{IntKind}
use Rattle.numbers.specs.declared.NumberFault.TheVariants.{ZeroDivisor}
use Rattle.numbers.specs.Arithmetic.{checked, checked_div}
use Rattle.numbers.proofs.Signs.{signed, no}

pub nat_abs_signed : (s : Bool) (n : ℕ) → nat_abs (signed s n) ≡ n
nat_abs_signed false n = refl
nat_abs_signed true zero = refl
nat_abs_signed true (suc n) = refl

-- ---- the sum
pub sum_same : (s t : Bool) (m n : ℕ) → beq s t ≡ true → signed s m +ℤ signed t n ≡ signed s (m + n)
sum_same false false m n e = refl
sum_same true true m n e = sym (neg_ℤ-+ℤ (pos m) (pos n))
sum_same false true m n e = no e
sum_same true false m n e = no e

again : (m n : ℕ) → n ≤ m → m ≡ m - n + n
again m n h = omega arith

less_pos : (m n : ℕ) → n ≤ m → pos m +ℤ neg_ℤ (pos n) ≡ pos (m - n)
less_pos m n h = ap (λ (k : ℕ). pos k +ℤ neg_ℤ (pos n)) (again m n h) ∙ +ℤ-neg_ℤ_cancel (pos (m - n)) (pos n)

pub sum_other : (s t : Bool) (m n : ℕ) → beq s t ≡ false → n ≤ m → signed s m +ℤ signed t n ≡ signed s (m - n)
sum_other false true m n e h = less_pos m n h
sum_other true false m n e h = ap (λ (z : ℤ). neg_ℤ (pos m) +ℤ z) (sym (neg_ℤ-neg_ℤ (pos n))) ∙ sym (neg_ℤ-+ℤ (pos m) (neg_ℤ (pos n))) ∙ ap neg_ℤ (less_pos m n h)
sum_other false false m n e h = no (sym e)
sum_other true true m n e h = no (sym e)

beq_comm : (s t : Bool) → beq s t ≡ beq t s
beq_comm false false = refl
beq_comm false true = refl
beq_comm true false = refl
beq_comm true true = refl

pub sum_other' : (s t : Bool) (m n : ℕ) → beq s t ≡ false → m ≤ n → signed s m +ℤ signed t n ≡ signed t (n - m)
sum_other' s t m n e h = +ℤ_comm (signed s m) (signed t n) ∙ sum_other t s n m (beq_comm t s ∙ e) h

-- ---- the product and the quotient
neg_zero : (k : ℕ) → k ≡ 0 → pos k ≡ neg_ℤ (pos k)
neg_zero k e = ap pos e ∙ sym (ap (λ (i : ℕ). neg_ℤ (pos i)) e)

pub product : (s t : Bool) (m n : ℕ) → signed s m *ℤ signed t n ≡ signed (unlike s t) (m * n)
product false false m n = refl
product false true m zero = neg_zero (m * 0) (mul-zero m)
product false true m (suc n) = refl
product true false zero n = neg_zero (0 * n) (zero-mul n)
product true false (suc m) n = refl
product true true zero zero = refl
product true true zero (suc n) = sym (neg_zero (0 * suc n) (zero-mul (suc n)))
product true true (suc m) zero = sym (neg_zero (suc m * 0) (mul-zero (suc m)))
product true true (suc m) (suc n) = refl

pub quotient : (s t : Bool) (m n : ℕ) → (n ≡ 0 → ⊥) → quot_z (signed s m) (signed t n) ≡ signed (unlike s t) (m / n)
quotient s t m zero z = absurd (z refl)
quotient false false m (suc n) z = refl
quotient false true m (suc n) z = refl
quotient true false zero (suc n) z = neg_zero (0 / suc n) (zero-div (suc n))
quotient true false (suc m) (suc n) z = refl
quotient true true zero (suc n) z = sym (neg_zero (0 / suc n) (zero-div (suc n)))
quotient true true (suc m) (suc n) z = refl

pub quot_zero : (k : IntKind) (a : ℤ) (t : Bool) (n : ℕ) → n ≡ 0 → checked_div k a (signed t n) ≡ Err ZeroDivisor
unfolding checked_div
quot_zero k a t n e = simp (eq-eqb (nat_abs (signed t n)) 0 (nat_abs_signed t n ∙ e))

pub quot_is : (k : IntKind) (s t : Bool) (m n : ℕ) → (n ≡ 0 → ⊥) → checked_div k (signed s m) (signed t n) ≡ checked k (signed (unlike s t) (m / n))
unfolding checked_div
quot_is k s t m n z = simp (ne_eqb (nat_abs (signed t n)) 0 (λ e. z (sym (nat_abs_signed t n) ∙ e)), quotient s t m n z)
