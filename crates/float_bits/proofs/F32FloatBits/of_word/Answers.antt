-- `of_word` of f32 meets its contract: a pattern above the infinity's, its sign taken off, is a NaN's. Assumes nothing.

use mathlib.Core.Path.{sym}
use lib.Ieee.{binary32, of_bits}
use Rattle.float_bits.proofs.Words.{pattern_nan, pattern_no_nan}
use Rattle.float_bits.proofs.F32FloatBits.of_word.Goals as goal

pub float_from_bits-result : goal.float_from_bits-result
float_from_bits-result c = pattern_no_nan binary32 _ c.if-bits-gt2139095040.false

pub returns-then-bits-gt2139095040 : goal.returns-then-bits-gt2139095040
unfolding of_bits
returns-then-bits-gt2139095040 c = sym (pattern_nan binary32 _ c.if-bits-gt2139095040.true)
