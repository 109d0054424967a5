-- `number_bench::repeated` meets its contract: after i turns the definition has the number at hand. Assumes nothing.

use Rattle.std.proofs.Common.{◌≡◌, Result, Ok}
use Rattle.numbers.specs.declared.Number.{Number}
use Rattle.numbers.specs.declared.NumberFault.{NumberFault}
use Rattle.number_bench.specs.Turns.{turns, Computes}
use Rattle.number_bench.proofs.repeated.Given as goal

abbrev pub invariant-loop-i : goal.invariant-loop-i
invariant-loop-i g l =
    (f : Number → Number → Result Number NumberFault) → Computes (goal.F-post g l.operation) f → turns (λ (x : Number). f x l.operand) l.i l.initial.acc ≡ Ok l.acc
