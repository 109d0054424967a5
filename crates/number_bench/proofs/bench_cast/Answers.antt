-- `number_bench::bench_cast` meets its contract: after so many turns the definition has the number at hand. Assumes nothing.

use Rattle.std.proofs.Common.{◌≡◌, refl, arith}
use Rattle.number_bench.proofs.Loops.{no_step, next_step, gone_and_back, all_cast}
use Rattle.number_bench.proofs.bench_cast.Goals as goal

pub loop-init : goal.loop-init
loop-init c = no_step _ _

pub loop-preserved : goal.loop-preserved
loop-preserved c =
    let loop = c.loop in
    next_step _ loop.counter _ loop.acc _ loop.invariant (gone_and_back loop.acc c.cast.ensures c.value_or-acc.ensures c.cast-in-loop.ensures c.value_or-acc-in-loop.ensures)

pub returns : goal.returns
returns c =
    let loop = c.loop in
    let args = c.args in
    let e : loop.counter ≡ args.n = omega (arith, c.loop-test.false, loop.auto.counter-end) in
    (refl, all_cast args.n loop.counter _ _ loop.acc c.number-acc.ensures e loop.invariant c.payload_of.ensures)
