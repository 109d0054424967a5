-- A sum of magnitudes that does not fit 64 bits is past every kind.
use Rattle.std.proofs.Common.{sym, ap, ◌∙◌, ◌+◌, arith}
use Rattle.numbers.specs.Arithmetic.{checked}
use Rattle.numbers.proofs.Sums.{sum_same}
use Rattle.numbers.proofs.Ranges.{beyond}
use Rattle.number_arithmetic.proofs.arithmetic.add_integers.Goals as goal

pub returns-in-None : goal.returns-in-None
returns-in-None c =
    let args = c.args in
    sym (ap (checked args.kind) (sum_same args.a.negative args.b.negative args.a.magnitude args.b.magnitude c.if-a-b.true)
    ∙ beyond args.kind args.a.negative (args.a.magnitude + args.b.magnitude) (omega (arith, c.in-None.ensures)))
