-- Each turn takes one byte more.
use Rattle.std.proofs.Common.{◌∙◌, arith}
use Rattle.image_records.proofs.Fields.{number_more, number_end, number_room, number_step}
use Rattle.image_records.proofs.number.Goals as goal

pub overflow_mul-v : goal.overflow_mul-v
overflow_mul-v c = let small = number_room _ _ c.loop-x.invariant.small (omega arith) in omega arith

pub loop-x-preserved : goal.loop-x-preserved
loop-x-preserved c =
    let loop = c.loop-x in
    let b = c.args.b.now in
    record {
      small = number_step loop.v c.from.result loop.x-index loop.invariant.small (omega (arith, c.from.ensures, c.type_inv.b loop.x-index));
      same = number_more b loop.v loop.x-index c.from.result c.loop-x-test.true c.from.ensures ∙ loop.invariant.same;
    }

pub returns : goal.returns
returns c = number_end c.args.b.now _ c.loop-x.x-index c.loop-x-test.false ∙ c.loop-x.invariant.same
