-- `float_bits::shift_to_nearest` meets its contract: the rest is n % 2^r, and the three ways are those of `closest`. Assumes nothing.

use mathlib.Core.Path.{sym, ◌∙◌}
use native.Mathlib.Omega.{arith}
use native.Mathlib.Numerals.{add-one}
use Rattle.float_bits.proofs.Round.{shifted, closest_below, closest_above, closest_tie}
use Rattle.float_bits.proofs.shift_to_nearest.Goals as goal

pub overflow_mul-rest : goal.overflow_mul-rest
overflow_mul-rest c = omega (arith, shifted c.args.n c.args.r c.requires.0 c.requires.1)

pub overflow_sub-rest : goal.overflow_sub-rest
overflow_sub-rest c = omega (arith, shifted c.args.n c.args.r c.requires.0 c.requires.1)

pub overflow_sub-other : goal.overflow_sub-other
overflow_sub-other c = omega (arith, shifted c.args.n c.args.r c.requires.0 c.requires.1)

pub overflow_add-result : goal.overflow_add-result
overflow_add-result c = omega (arith, shifted c.args.n c.args.r c.requires.0 c.requires.1)

pub overflow_add-result-else-other-rest : goal.overflow_add-result-else-other-rest
overflow_add-result-else-other-rest c = omega (arith, shifted c.args.n c.args.r c.requires.0 c.requires.1)

pub returns-then-rest-other : goal.returns-then-rest-other
returns-then-rest-other c = sym (closest_below _ _ (omega (arith, shifted c.args.n c.args.r c.requires.0 c.requires.1)))

pub returns-then-other-rest : goal.returns-then-other-rest
returns-then-other-rest c = add-one _ ∙ sym (closest_above _ _ (omega (arith, shifted c.args.n c.args.r c.requires.0 c.requires.1)))

pub returns-else-other-rest : goal.returns-else-other-rest
returns-else-other-rest c = sym (closest_tie _ _ (omega (arith, shifted c.args.n c.args.r c.requires.0 c.requires.1)))
