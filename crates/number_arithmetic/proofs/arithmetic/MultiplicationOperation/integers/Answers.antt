-- A product of magnitudes that does not fit 64 bits is past every kind.
use Rattle.number_arithmetic.proofs.Checked.{product_checked}
use Rattle.number_arithmetic.proofs.arithmetic.MultiplicationOperation.integers.Goals as goal

pub returns : goal.returns
returns c =
    let args = c.args in
    product_checked args.kind args.a.negative args.b.negative args.a.magnitude args.b.magnitude c.of_magnitudes.result c.checked_mul-product.result
    c.checked_mul-product.ensures c.ok_or.ensures.value c.of_magnitudes.ensures
