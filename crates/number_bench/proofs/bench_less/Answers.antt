-- `number_bench::bench_less` meets its contract: after so many turns the count is the definition's. Assumes nothing.

use Rattle.std.proofs.Common.{◌≡◌, refl, arith}
use Rattle.number_bench.proofs.Loops.{no_step, next_step, counted, all_counted}
use Rattle.number_bench.proofs.bench_less.Goals as goal

pub loop-init : goal.loop-init
loop-init c = no_step _ _

pub loop-preserved : goal.loop-preserved
loop-preserved c =
    let loop = c.loop in
    next_step _ loop.counter _ loop.acc _ loop.invariant (counted c.args.kind c.number-bound.result loop.acc c.number.ensures c.less.ensures c.pace-acc.ensures refl)

pub returns : goal.returns
returns c =
    let loop = c.loop in
    let args = c.args in
    let e : loop.counter ≡ args.n = omega (arith, c.loop-test.false, loop.auto.counter-end) in
    (refl, all_counted args.kind args.n loop.counter _ loop.acc c.number-bound.result _ c.number-bound.ensures e loop.invariant)
