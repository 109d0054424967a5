-- `number_bench::repeated` meets its contract: after i turns the definition has the number at hand. Assumes nothing.

use Rattle.std.proofs.Common.{◌≡◌, inl, inr, arith}
use Rattle.number_bench.proofs.Loops.{no_turn, next_turn, all_turns, faulted, no_value}
use Rattle.number_bench.proofs.repeated.Goals as goal

pub loop-i-init : goal.loop-i-init
loop-i-init g c = λ f h. no_turn _ _

pub returns-in-Err : goal.returns-in-Err
returns-in-Err g c =
    let loop = c.loop-i in
    λ f h. inr (faulted f c.args.n loop.i _ _ _ _ loop.acc c.number-acc.ensures c.number-operand.ensures c.loop-i-test.true (loop.invariant f h)
    (h _ _ _ c.operation.ensures) (no_value c.in-Err.is))

pub loop-i-preserved : goal.loop-i-preserved
loop-i-preserved g c =
    let loop = c.loop-i in
    λ f h. next_turn _ loop.i _ loop.acc c.in-Ok.y (loop.invariant f h) (h _ _ _ c.operation.ensures) c.in-Ok.is

pub returns : goal.returns
returns g c =
    let loop = c.loop-i in
    let args = c.args in
    let e : loop.i ≡ args.n = omega (arith, c.loop-i-test.false, loop.auto.i-end) in
    λ f h. inl (all_turns f args.n loop.i _ _ _ _ loop.acc c.number-acc.ensures c.number-operand.ensures e (loop.invariant f h) c.payload_of.ensures)
