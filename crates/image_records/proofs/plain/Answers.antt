-- Each turn judges one byte more.
use Rattle.std.proofs.Common.{sym, ◌∙◌}
use Rattle.std.proofs.Math.Bool.{and-true}
use Rattle.image_records.proofs.Fields.{plain_next, plain_end}
use Rattle.image_records.proofs.plain.Goals as goal

pub loop-x-preserved : goal.loop-x-preserved
loop-x-preserved c =
    rw c.is_printable-fine.ensures (plain_next c.loop-x.fine c.args.b.now c.loop-x.x-index c.loop-x-test.true ∙ c.loop-x.invariant)

pub returns : goal.returns
returns c = sym (and-true c.loop-x.fine) ∙ rw (plain_end c.args.b.now c.loop-x.x-index c.loop-x-test.false) at c.loop-x.invariant
