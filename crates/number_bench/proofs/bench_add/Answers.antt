-- `number_bench::bench_add` meets its contract: its operation is `add_of`. Assumes nothing.

use Rattle.std.proofs.Common.{rules}
use Rattle.numbers.specs.Arithmetic.{add_of}
use Rattle.number_bench.proofs.bench_add.Goals as goal

pub returns : goal.returns
returns c = c.repeated.ensures add_of (λ x y r p. search rules)
