-- `number_bench::bench_sub` meets its contract: its operation is `sub_of`. Assumes nothing.

use Rattle.std.proofs.Common.{rules}
use Rattle.numbers.specs.Arithmetic.{sub_of}
use Rattle.number_bench.proofs.bench_sub.Goals as goal

pub returns : goal.returns
returns c = c.repeated.ensures sub_of (λ x y r p. search rules)
