-- Two Ints in the type itself: std's order of integers is the definition's.
use Rattle.std.proofs.Common.{rules, ◌≡◌, ℤ, sym, ap, ◌∙◌, Ok, w64, to_z-of_z}
use Rattle.std.specs.declared.cmp.Ordering.{Ordering}
use Rattle.std.specs.Ordering.{int_cmp}
use Rattle.numbers.specs.declared.Number.{Number}
use Rattle.numbers.specs.declared.Number.TheVariants.{Int}
use Rattle.numbers.specs.Compare.{integer_order, compare_of}
use Rattle.number_comparison.proofs.compare.Goals as goal

-- zx and zy are what the machine reads back of x and y
both : {r : Ordering} {a b : Number} {zx zy x y : ℤ} → zx ≡ x → zy ≡ y → a ≡ Int x → b ≡ Int y → r ≡ int_cmp zx zy → Ok r ≡ compare_of a b
unfolding integer_order
both {b = b} {zy = zy} {x = x} p q k l e =
    ap Ok (e ∙ ap (λ (z : ℤ). int_cmp z zy) p ∙ ap (int_cmp x) q) ∙ sym (ap (λ (n : Number). compare_of n b) k ∙ ap (compare_of (Int x)) l)

pub returns-in-Int-Int : goal.returns-in-Int-Int
returns-in-Int-Int c =
    both (to_z-of_z {w = w64} {z = c.in-Int-Int.x} (search rules)) (to_z-of_z {w = w64} {z = c.in-Int-Int.y} (search rules)) c.in-Int-Int.is-0 c.in-Int-Int.is-1 c.cmp.ensures
