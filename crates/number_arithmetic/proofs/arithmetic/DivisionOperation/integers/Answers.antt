-- The quotient of the magnitudes truncates.
use Rattle.number_arithmetic.proofs.Checked.{quotient_checked}
use Rattle.number_arithmetic.proofs.arithmetic.DivisionOperation.integers.Goals as goal

pub returns : goal.returns
returns c =
    let args = c.args in
    quotient_checked args.kind args.a.negative args.b.negative args.a.magnitude args.b.magnitude c.of_magnitudes.result c.checked_div-quotient.result
    c.checked_div-quotient.ensures c.ok_or.ensures.value c.of_magnitudes.ensures
