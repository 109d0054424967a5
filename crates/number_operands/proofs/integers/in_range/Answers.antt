-- `number_operands::integers::in_range` meets its contract: by the sign, the bound on that side. Assumes nothing.

use Rattle.std.proofs.Common.{leb, sym, ap, ◌∙◌}
use Rattle.numbers.specs.Kinds.{in_range}
use Rattle.number_operands.proofs.SignMagnitudes.{value_neg, value_pos}
use Rattle.numbers.proofs.Ranges.{in_range_neg}
use Rattle.number_operands.proofs.integers.in_range.Goals as goal

pub returns-then-x : goal.returns-then-x
returns-then-x c =
    let args = c.args in
    ap (leb args.x.magnitude) c.least_magnitude.ensures ∙ in_range_neg args.kind args.x.magnitude ∙ sym (ap (in_range args.kind)
    (value_neg args.x c.if-x.true))

pub returns-else-x : goal.returns-else-x
returns-else-x c =
    let args = c.args in
    ap (leb args.x.magnitude) c.greatest_of.ensures ∙ sym (ap (in_range args.kind) (value_pos args.x c.if-x.false))
