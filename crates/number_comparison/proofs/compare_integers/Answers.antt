-- `numbers::comparison::compare_integers` meets its contract. Assumes nothing.

use mathlib.Core.Path.{sym, ◌∙◌}
use Rattle.number_operands.specs.Operands.{value_of}
use Rattle.number_comparison.proofs.Orders.{order_less, order_greater, order_equal}
use Rattle.number_comparison.proofs.compare_integers.Goals as goal

pub returns-then-is_below : goal.returns-then-is_below
returns-then-is_below c =
    let args = c.args in
    order_less (value_of args.a) (value_of args.b) (sym c.is_below.ensures ∙ c.if-is_below.true)

pub returns-then-is_below-2 : goal.returns-then-is_below-2
returns-then-is_below-2 c =
    let if1 = c.if-is_below in
    let is_below = c.is_below in
    let args = c.args in
    order_greater (value_of args.a) (value_of args.b) (sym is_below.ensures ∙ if1.false) (sym c.is_below-else-is_below.ensures ∙ c.if-is_below-2.true)

pub returns-else-is_below-2 : goal.returns-else-is_below-2
returns-else-is_below-2 c =
    let if1 = c.if-is_below in
    let is_below = c.is_below in
    let args = c.args in
    order_equal (value_of args.a) (value_of args.b) (sym is_below.ensures ∙ if1.false) (sym c.is_below-else-is_below.ensures ∙ c.if-is_below-2.false)
