-- `number_bench::bench_mul` meets its contract: its operation is `mul_of`. Assumes nothing.

use Rattle.std.proofs.Common.{rules}
use Rattle.numbers.specs.Arithmetic.{mul_of}
use Rattle.number_bench.proofs.bench_mul.Goals as goal

pub returns : goal.returns
returns c = c.repeated.ensures mul_of (λ x y r p. search rules)
