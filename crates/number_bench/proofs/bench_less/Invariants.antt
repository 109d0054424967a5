-- `number_bench::bench_less` meets its contract: after so many turns the definition has what is at hand. Assumes nothing.

use Rattle.std.proofs.Common.{◌≡◌}
use Rattle.number_bench.specs.Turns.{steps, count_on}
use Rattle.number_bench.proofs.bench_less.Given as goal

abbrev pub invariant-loop : goal.invariant-loop
invariant-loop l = steps (count_on l.kind l.bound) l.counter l.initial.acc ≡ l.acc
