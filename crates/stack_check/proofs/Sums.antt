-- Changes of height as the machine computes them, through the bits of a signed number. Assumes nothing.
use mathlib.Core.Path.{◌≡◌, sym, ◌∙◌, ap, subst}
use Prim.Native.Nat.{ℕ, ◌<◌, ◌≤◌, ◌^◌}
use native.Mathlib.Omega.{arith}
use lib.Dec.{T}
use lib.IntN.{ℤ, pos, negsuc, nat_abs, ◌+ℤ◌, ◌-ℤ◌}
use lib.Signed.{non_neg, mag}
use mir.Syntax.{w64}
use mir.Val.{Fits, SFits, to_z, of_z}
use mir.Facts.{to_z-of_z, to_z_pos}
use Rattle.definition.specs.Table.{added}
use Rattle.definition.proofs.ChangeOfHeight.{rise, fall, lessened}
use Rattle.stack_check.specs.Flat.{Changeable}

-- a height changed by z
module _ (h : ℕ) (z : ℤ) (f : SFits w64 z) (C : Changeable h z) where
  abbrev sum : ℤ
  sum = to_z w64 h +ℤ to_z w64 (of_z w64 z)

  sum_is : sum ≡ pos (added h z)
  sum_is = ap (λ (y : ℤ). y +ℤ to_z w64 (of_z w64 z)) (to_z_pos w64 C.before) ∙ ap (λ (y : ℤ). pos h +ℤ y) (to_z-of_z f) ∙ sym C.whole

  pub sum_fits : SFits w64 sum
  sum_fits = subst (SFits w64) (sym sum_is) (record { sfits = C.after })

  back : to_z w64 (of_z w64 sum) ≡ pos (added h z)
  back = to_z-of_z sum_fits ∙ sum_is

  pub natural : T (non_neg (to_z w64 (of_z w64 sum))) × Fits w64 (nat_abs (to_z w64 (of_z w64 sum)))
  natural = subst (λ (y : ℤ). T (non_neg y) × Fits w64 (nat_abs y)) (sym back) (tt, record { fits = omega (arith, C.after) })

-- a row's change, less the operands that are counted
small : (z : ℤ) (n : ℕ) → rise z < n → fall z < n → mag z < n
small (pos k) n r f = r
small (negsuc k) n r f = omega arith

module _ (z : ℤ) (n : ℕ) (r : rise z ≤ 1) (f : fall z ≤ 2) (l : n < 65536) where
  abbrev less : ℤ
  less = to_z w64 (of_z w64 z) -ℤ to_z w64 n

  row_fits : SFits w64 z
  row_fits = record { sfits = small z (2 ^ 63) (omega arith) (omega arith) }

  less_is : less ≡ z -ℤ pos n
  less_is = ap (λ (y : ℤ). y -ℤ to_z w64 n) (to_z-of_z row_fits) ∙ ap (λ (y : ℤ). z -ℤ y) (to_z_pos w64 {n = n} (omega arith))

  pub less_fits : SFits w64 less
  less_fits =
      let x = lessened z n in
      subst (SFits w64) (sym less_is) (record { sfits = small (z -ℤ pos n) (2 ^ 63) (omega (arith, x.rises)) (omega (arith, x.falls)) })

  pub less_back : to_z w64 (of_z w64 less) ≡ z -ℤ pos n
  less_back = to_z-of_z less_fits ∙ less_is
