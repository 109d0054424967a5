-- `number_bench::bench_cast` meets its contract: after so many turns the definition has what is at hand. Assumes nothing.

use Rattle.std.proofs.Common.{◌≡◌}
use Rattle.number_bench.specs.Turns.{steps, there_and_back}
use Rattle.number_bench.proofs.bench_cast.Given as goal

abbrev pub invariant-loop : goal.invariant-loop
invariant-loop l = steps there_and_back l.counter l.initial.acc ≡ l.acc
