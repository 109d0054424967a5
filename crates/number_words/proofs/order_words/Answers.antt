-- Places are in the order of their numbers, by `less_is`.

use mathlib.Core.Path.{◌∙◌}
use Rattle.number_words.proofs.Places.{less_is, same_order}
use Rattle.number_words.proofs.order_words.Goals as goal

pub turned-requires : goal.turned-requires
turned-requires c = (c.requires.0, c.requires.1)

pub turned-requires-2 : goal.turned-requires-2
turned-requires-2 c = (c.requires.0, c.requires.2)

pub returns : goal.returns
returns c =
    let x = c.turned in
    let y = c.turned-2 in
    let args = c.args in
    let pre = c.requires in
    λ k i. c.cmp.ensures ∙ same_order x.result y.result _ _ (less_is k args.n args.p args.q x.result y.result i pre.1 pre.2 x.ensures.0 y.ensures.0)
    (less_is k args.n args.q args.p y.result x.result i pre.2 pre.1 y.ensures.0 x.ensures.0)
