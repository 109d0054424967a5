-- `of_word` of f64 meets its contract: a pattern above the infinity's, its sign taken off, is a NaN's. Assumes nothing.

use mathlib.Core.Path.{sym}
use lib.Ieee.{binary64, of_bits}
use Rattle.float_bits.proofs.Words.{pattern_nan, pattern_no_nan}
use Rattle.float_bits.proofs.F64FloatBits.of_word.Goals as goal

pub float_from_bits-result : goal.float_from_bits-result
float_from_bits-result c = pattern_no_nan binary64 _ c.if-w-gt9218868437227405312.false

pub returns-then-w-gt9218868437227405312 : goal.returns-then-w-gt9218868437227405312
unfolding of_bits
returns-then-w-gt9218868437227405312 c = sym (pattern_nan binary64 _ c.if-w-gt9218868437227405312.true)
