-- Two floats are compared by std, whose order is the definition's.
use Rattle.std.proofs.Common.{rules, ◌≡◌, ap, ◌∙◌, ok_or}
use Rattle.numbers.specs.declared.ComparisonFault.TheVariants.{Unordered}
use Rattle.numbers.specs.Compare.{float_order}
use Rattle.number_comparison.proofs.Orders.{float_order_std}
use Rattle.number_comparison.proofs.compare_any.Goals as goal

pub returns-in-Some-Doubles : goal.returns-in-Some-Doubles
returns-in-Some-Doubles c =
    let p = c.in-Some-Doubles.p in
    let q = c.in-Some-Doubles.q in
    let e : c.ok_or.result ≡ ok_or (float_order p q) Unordered = c.ok_or.ensures.value ∙ ap (λ o. ok_or o Unordered) (c.partial_cmp.ensures ∙ float_order_std p q) in
    rw e (search rules)

pub returns-in-Some-Singles : goal.returns-in-Some-Singles
returns-in-Some-Singles c =
    let p = c.in-Some-Singles.p in
    let q = c.in-Some-Singles.q in
    let e : c.ok_or-in-Some-Singles.result ≡ ok_or (float_order p q) Unordered = c.ok_or-in-Some-Singles.ensures.value ∙ ap (λ o. ok_or o Unordered) (c.partial_cmp-in-Some-Singles.ensures ∙ float_order_std p q) in
    rw e (search rules)
