-- Negate of a kind with a sign: 37 at the least number, and the negative of every other. Assumes nothing.
use mathlib.Core.Path.{◌≡◌, refl, sym, ap, ◌∙◌}
use mathlib.Core.Bool.{Bool, true, cond}
use Prim.Native.Nat.{ℕ, zero, suc, ◌-◌, ◌^◌, ◌<◌}
use native.Mathlib.Omega.{arith}
use lib.IntN.{ℤ, pos, negsuc, neg_ℤ}
use lib.Signed.{mag}
use Rattle.std.specs.Prelude.{Ok, Err}
use Rattle.numbers.specs.declared.IntKind.{IntKind}
use Rattle.numbers.specs.declared.IntKind.TheVariants.{I64, U64, I32, U32, U8, I8, U16, I16}
use Rattle.numbers.specs.declared.NumberFault.TheVariants.{Overflow}
use Rattle.numbers.specs.Kinds.{is_signed, bits_of, least, in_range, as_kind}
use Rattle.numbers.specs.Answers.{pick}
use Rattle.numbers.specs.Arithmetic.{checked, negate_of, NegateInRange}
use Rattle.numbers.proofs.Signs.{no}
use Rattle.numbers.proofs.Ranges.{in_signed, signed_in}

at_least : (k : IntKind) → is_signed k ≡ true → negate_of (as_kind k (least k)) ≡ Err Overflow
unfolding negate_of checked
at_least I64 s = refl
at_least I32 s = refl
at_least I8 s = refl
at_least I16 s = refl
at_least U64 s = no s
at_least U32 s = no s
at_least U8 s = no s
at_least U16 s = no s

pub exactly : (k : IntKind) (z : ℤ) → is_signed k ≡ true → negate_of (as_kind k z) ≡ checked k (neg_ℤ z)
unfolding negate_of checked
exactly I64 z s = refl
exactly I32 z s = refl
exactly I8 z s = refl
exactly I16 z s = refl
exactly U64 z s = no s
exactly U32 z s = no s
exactly U8 z s = no s
exactly U16 z s = no s

below : (n p : ℕ) → n < p → (suc n ≡ p → ⊥) → suc n < p
below n p l d = omega arith

negative : (k : IntKind) (z : ℤ) → is_signed k ≡ true → mag z < 2 ^ (bits_of k - 1) → (z ≡ least k → ⊥) → mag (neg_ℤ z) < 2 ^ (bits_of k - 1)
negative k (pos zero) s l d = l
negative k (pos (suc n)) s l d = let m : suc n < 2 ^ (bits_of k - 1) = l in omega arith
negative k (negsuc n) s l d =
    below n (2 ^ (bits_of k - 1)) l
    (λ e. d (ap (λ (m : ℕ). neg_ℤ (pos m)) (e ∙ sym (ap (λ (b : Bool). cond b (2 ^ (bits_of k - 1)) 0) s))))

pub neg_in : (k : IntKind) (z : ℤ) → is_signed k ≡ true → in_range k z ≡ true → (z ≡ least k → ⊥) → in_range k (neg_ℤ z) ≡ true
neg_in k z s h d = signed_in k (neg_ℤ z) s (negative k z s (in_signed k z s h) d)

not_least : (k : IntKind) (z : ℤ) → is_signed k ≡ true → in_range k z ≡ true → (z ≡ least k → ⊥) → negate_of (as_kind k z) ≡ Ok (as_kind k (neg_ℤ z))
unfolding checked
not_least k z s h d = exactly k z s ∙ ap (λ (b : Bool). pick b (Ok (as_kind k (neg_ℤ z))) (Err Overflow)) (neg_in k z s h d)

pub negate_in_range : NegateInRange
negate_in_range k s = (at_least k s, λ z h d. not_least k z s h d)
