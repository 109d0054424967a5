-- `to_word` of f64 meets its contract: of a float that is a NaN these are the bits of the one NaN. Assumes nothing.

use mathlib.Core.Path.{sym, ap, ◌∙◌}
use lib.Ieee.{binary64, to_bits}
use Rattle.float_bits.proofs.Words.{nan_is}
use Rattle.float_bits.proofs.F64FloatBits.to_word.Goals as goal

pub returns-then-is_nan-clause-word : goal.returns-then-is_nan-clause-word
unfolding to_bits
returns-then-is_nan-clause-word c = sym (ap (to_bits binary64) (nan_is _ (sym c.is_nan.ensures.value ∙ c.if-is_nan.true)))
