-- Two factors of the same sign have a product at or above zero's place, of different signs at or below it; each is at a place of the kind
-- or past all of them.

use native.Mathlib.Omega.{arith}
use mathlib.Core.Path.{◌∙◌}
use Prim.Native.Nat.{◌+◌, ◌-◌, ◌*◌}
use Rattle.number_words.proofs.Places.{sub_same, small_product, alike, unalike, at_place, below_all, above_all}
use Rattle.number_words.proofs.mul_words.Goals as goal

pub turned-x-requires : goal.turned-x-requires
turned-x-requires c = (c.requires.0, c.requires.1)

pub turned-y-requires : goal.turned-y-requires
turned-y-requires c = (c.requires.0, c.requires.2)

pub magnitude-requires : goal.magnitude-requires
magnitude-requires c =
    let pre = c.requires in
    (pre.0, c.turned-x.ensures.1)

pub magnitude-requires-2 : goal.magnitude-requires-2
magnitude-requires-2 c =
    let pre = c.requires in
    (pre.0, c.turned-y.ensures.1)

pub overflow_mul-product : goal.overflow_mul-product
overflow_mul-product c = record { fits = small_product c.magnitude.result c.magnitude-2.result c.magnitude.ensures.1 c.magnitude-2.ensures.1 }

pub overflow_sub-n : goal.overflow_sub-n
overflow_sub-n c =
    let pre = c.requires in
    omega (arith, pre.0.1.negatives, pre.0.1.numbers)

pub overflow_add-n : goal.overflow_add-n
overflow_add-n c =
    let pre = c.requires in
    omega (arith, c.if-product-n.true, pre.0.1.few)

pub turned-requires : goal.turned-requires
turned-requires c =
    let pre = c.requires in
    (pre.0, omega (arith, c.if-product-n.true))

pub returns-then-product-n : goal.returns-then-product-n
returns-then-product-n c =
    let if2 = c.if-product-n in
    let if1 = c.if-s-t in
    let magnitude2 = c.magnitude-2 in
    let magnitude = c.magnitude in
    let turned2 = c.turned-y in
    let turned = c.turned-x in
    let args = c.args in
    let pre = c.requires in
    λ k i. at_place k args.n i _ (args.n.negatives + magnitude.result * magnitude2.result) _ (alike k args.n i args.p args.q
    turned.result turned2.result magnitude.result magnitude2.result pre.1 pre.2 turned.ensures.0 turned2.ensures.0
    magnitude.ensures.0 magnitude2.ensures.0 if1.true) (omega (arith, if2.true)) c.turned.ensures.0

pub returns-then-s-t : goal.returns-then-s-t
returns-then-s-t c =
    let if1 = c.if-s-t in
    let magnitude2 = c.magnitude-2 in
    let magnitude = c.magnitude in
    let turned2 = c.turned-y in
    let turned = c.turned-x in
    let args = c.args in
    let pre = c.requires in
    λ k i. above_all k args.n i _ (args.n.negatives + magnitude.result * magnitude2.result) args.n.negatives (alike k args.n i
    args.p args.q turned.result turned2.result magnitude.result magnitude2.result pre.1 pre.2 turned.ensures.0
    turned2.ensures.0 magnitude.ensures.0 magnitude2.ensures.0 if1.true) (omega (arith, c.if-product-n.false))

pub turned-requires-then-product-n-2 : goal.turned-requires-then-product-n-2
turned-requires-then-product-n-2 c =
    let pre = c.requires in
    (pre.0, omega (arith, c.if-product-n-2.true, pre.0.1.negatives, pre.0.1.numbers))

pub returns-then-product-n-2 : goal.returns-then-product-n-2
returns-then-product-n-2 c =
    let if3 = c.if-product-n-2 in
    let if1 = c.if-s-t in
    let magnitude2 = c.magnitude-2 in
    let magnitude = c.magnitude in
    let turned2 = c.turned-y in
    let turned = c.turned-x in
    let args = c.args in
    let pre = c.requires in
    λ k i. at_place k args.n i _ (args.n.negatives - magnitude.result * magnitude2.result) _ (unalike k args.n i args.p args.q
    turned.result turned2.result magnitude.result magnitude2.result pre.1 pre.2 turned.ensures.0 turned2.ensures.0
    magnitude.ensures.0 magnitude2.ensures.0 if1.false ∙ sub_same 0 (magnitude.result * magnitude2.result) _ args.n.negatives
    (omega (arith, if3.true))) (omega (arith, i.negatives, i.numbers)) c.turned-then-product-n-2.ensures.0

pub returns : goal.returns
returns c =
    let if1 = c.if-s-t in
    let magnitude2 = c.magnitude-2 in
    let magnitude = c.magnitude in
    let turned2 = c.turned-y in
    let turned = c.turned-x in
    let args = c.args in
    let pre = c.requires in
    λ k i. below_all k args.n i _ 0 (magnitude.result * magnitude2.result) (unalike k args.n i args.p args.q turned.result
    turned2.result magnitude.result magnitude2.result pre.1 pre.2 turned.ensures.0 turned2.ensures.0 magnitude.ensures.0
    magnitude2.ensures.0 if1.false) (omega (arith, c.if-product-n-2.false))
