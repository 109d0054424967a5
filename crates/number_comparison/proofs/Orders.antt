-- The order of signs and magnitudes. Assumes nothing.
use mathlib.Core.Path.{◌≡◌, refl, sym, ap, ◌∙◌}
use mathlib.Core.Bool.{Bool, true, false, cond}
use lib.IntN.{ℤ}
use lib.Signed.{lt_z}
use Rattle.std.specs.declared.cmp.Ordering.TheVariants.{Less, Equal, Greater}
use lib.Ieee.{Float, lt, eq}
use Rattle.std.specs.Prelude.{Some, None, T}
use Rattle.std.specs.Ordering.{float_partial_cmp}
use Rattle.std.proofs.lemmas.Float.{eq_flip, eq-not_lt}
use Rattle.numbers.specs.Compare.{integer_order, float_order}

-- ---- the three answers of a comparison of integers, from its two tests
pub order_less : (a b : ℤ) → lt_z a b ≡ true → Less ≡ integer_order a b
unfolding integer_order
order_less a b h = sym (ap (λ (t : Bool). cond t Less (cond (lt_z b a) Greater Equal)) h)

pub order_greater : (a b : ℤ) → lt_z a b ≡ false → lt_z b a ≡ true → Greater ≡ integer_order a b
unfolding integer_order
order_greater a b h k = sym (ap (λ (t : Bool). cond t Less (cond (lt_z b a) Greater Equal)) h ∙ ap (λ (t : Bool). cond t Greater Equal) k)

pub order_equal : (a b : ℤ) → lt_z a b ≡ false → lt_z b a ≡ false → Equal ≡ integer_order a b
unfolding integer_order
order_equal a b h k = sym (ap (λ (t : Bool). cond t Less (cond (lt_z b a) Greater Equal)) h ∙ ap (λ (t : Bool). cond t Greater Equal) k)

-- ---- std compares two floats in another order of tests: a float that is equal is neither less nor greater
pub float_order_std : (a b : Float) → float_partial_cmp a b ≡ float_order a b
unfolding float_order
float_order_std a b = go (lt a b) (lt b a) (eq a b) (λ e. eq-not_lt b a (eq_flip a b e))
  where
    go : (l g e : Bool) → (T e → ¬ (T g)) → cond l (Some Less) (cond e (Some Equal) (cond g (Some Greater) None)) ≡ cond l (Some Less) (cond g (Some Greater) (cond e (Some Equal) None))
    go true g e n = refl
    go false g false n = refl
    go false false true n = refl
    go false true true n = absurd (n tt tt)
