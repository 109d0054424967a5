-- What std's checked operations answer at a width, as the definition has it at the kind with a sign of that width. Assumes nothing.
use Rattle.std.proofs.Common.{neg_ℤ, to_z, of_z, to_z-of_z, ◌*ℤ◌, ◌*◌, ◌/◌, MatchResult, arith, ◌≡◌, refl, sym, ap, ◌∙◌, subst, Bool, true, false, ℕ, ◌-◌, ◌^◌, ◌<◌, ℤ, SFits, Option, Some, None, Result, Ok, Err, SomeIff, ok_or, MatchOption, IsSomeAnd}
use mathlib.Core.Path.{subst⁻¹}
use lib.Ieee.{unlike}
use lib.Signed.{mag}
use mir.Syntax.{Width}
use mir.Val.{hbits}
use Rattle.numbers.specs.declared.Number.{Number}
use Rattle.numbers.specs.declared.NumberFault.{NumberFault}
use Rattle.numbers.specs.declared.NumberFault.TheVariants.{Overflow, ZeroDivisor}
use Rattle.numbers.specs.declared.IntKind.{IntKind}
use Rattle.numbers.specs.Kinds.{is_signed, bits_of, in_range, as_kind}
use Rattle.numbers.specs.Answers.{pick}
use Rattle.numbers.specs.Arithmetic.{checked, checked_div, negate_of}
use Rattle.numbers.proofs.Signs.{signed}
use Rattle.numbers.proofs.Sums.{product, quot_zero, quot_is}
use Rattle.numbers.proofs.NegateInRange.{exactly}
use Rattle.numbers.proofs.Ranges.{in_signed, signed_in, beyond}

module _ (k : IntKind) (u : Width) (s : is_signed k ≡ true) (w : hbits u ≡ bits_of k - 1) where
  -- z is what the machine reads of y
  some : {y z v : ℤ} → z ≡ y → SFits u z × (v ≡ z) → Ok (as_kind k v) ≡ checked k y
  unfolding checked
  some {y} {z} {v} e h =
      let f : SFits u y = subst (λ (x : ℤ). SFits u x) e h.0 in
      let r : in_range k y ≡ true = signed_in k y s (subst (λ (n : ℕ). mag y < 2 ^ n) w f.sfits) in
      ap (λ (x : ℤ). Ok (as_kind k x)) (h.1 ∙ e) ∙ sym (ap (λ (b : Bool). pick b (Ok (as_kind k y)) (Err Overflow)) r)

  none : {y z : ℤ} → z ≡ y → ¬ (SFits u z) → Err Overflow ≡ checked k y
  unfolding checked
  none {y} {z} e n = go (in_range k y) refl
    where
      go : (b : Bool) → in_range k y ≡ b → Err Overflow ≡ checked k y
      go true h = absurd (n (subst (λ (x : ℤ). SFits u x) (sym e) (record { sfits = subst⁻¹ (λ (m : ℕ). mag y < 2 ^ m) w (in_signed k y s h) })))
      go false h = sym (ap (λ (b : Bool). pick b (Ok (as_kind k y)) (Err Overflow)) h)

  -- r is what the checked operation answered, m that as a number of the kind
  pub kind_checked : {y z : ℤ} → z ≡ y → (r : Option ℤ) → SomeIff r (SFits u z) z → (m : Option Number)
      → MatchOption r (m ≡ None) (λ v. IsSomeAnd m (λ n. n ≡ as_kind k v)) → {o : Result Number NumberFault} → o ≡ ok_or m Overflow → o ≡ checked k y
  kind_checked e (Some v) h None i p = absurd i
  kind_checked e (Some v) h (Some n) i p = p ∙ ap Ok i ∙ some e h
  kind_checked e None h m i p = p ∙ ap (λ (x : Option Number). ok_or x Overflow) i ∙ none e h

  -- a is the number that is negated
  pub negated : {x : ℤ} (r : Option ℤ) → SomeIff r (SFits u (neg_ℤ (to_z u (of_z u x)))) (neg_ℤ (to_z u (of_z u x))) → SFits u x → (a : Number) → a ≡ as_kind k x → (m : Option Number)
      → MatchOption r (m ≡ None) (λ v. IsSomeAnd m (λ n. n ≡ as_kind k v)) → {o : Result Number NumberFault} → o ≡ ok_or m Overflow → o ≡ negate_of a
  negated {x} r h f a e m i p = kind_checked (ap neg_ℤ (to_z-of_z {w = u} f)) r h m i p ∙ sym (ap negate_of e ∙ exactly k x s)

-- ---- magnitudes: q is the checked operation's answer r or its fault, and o what comes of it
module _ (k : IntKind) (s t : Bool) (m n : ℕ) (o : Result Number NumberFault) where
  abbrev OfMagnitudes : Result ℕ NumberFault → Type 0
  OfMagnitudes q = MatchResult q (λ v. o ≡ checked k (signed (unlike s t) v)) (λ f. o ≡ Err f)

  pub product_checked : (r : Option ℕ) {q : Result ℕ NumberFault} → SomeIff r (m * n < 2 ^ 64) (m * n) → q ≡ ok_or r Overflow → OfMagnitudes q → o ≡ checked k (signed s m *ℤ signed t n)
  product_checked (Some v) h e i = subst OfMagnitudes e i ∙ ap (λ (x : ℕ). checked k (signed (unlike s t) x)) h.1 ∙ sym (ap (checked k) (product s t m n))
  product_checked None h e i = subst OfMagnitudes e i ∙ sym (ap (checked k) (product s t m n) ∙ beyond k (unlike s t) (m * n) (omega (arith, h)))

  pub quotient_checked : (r : Option ℕ) {q : Result ℕ NumberFault} → SomeIff r (0 < n) (m / n) → q ≡ ok_or r ZeroDivisor → OfMagnitudes q → o ≡ checked_div k (signed s m) (signed t n)
  quotient_checked (Some v) h e i = subst OfMagnitudes e i ∙ ap (λ (x : ℕ). checked k (signed (unlike s t) x)) h.1 ∙ sym (quot_is k s t m n (λ z. omega (arith, z, h.0)))
  quotient_checked None h e i = subst OfMagnitudes e i ∙ sym (quot_zero k (signed s m) t n (omega (arith, h)))
