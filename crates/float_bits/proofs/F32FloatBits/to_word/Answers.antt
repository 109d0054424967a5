-- `to_word` of f32 meets its contract: of a float that is a NaN these are the bits of the one NaN. Assumes nothing.

use mathlib.Core.Path.{sym, ap, ◌∙◌}
use borrow.Author.Rules.{rules}
use native.Mathlib.Omega.{arith}
use lib.Ieee.{binary32, to_bits}
use lib.Ieee.Bits.{to_bits-lt}
use Rattle.float_bits.proofs.Words.{nan_is}
use Rattle.float_bits.proofs.F32FloatBits.to_word.Goals as goal

pub overflow_cast-result : goal.overflow_cast-result
overflow_cast-result c = record { fits = omega (arith, to_bits-lt binary32 c.args.self (search rules)) }

pub returns-then-is_nan-clause-word : goal.returns-then-is_nan-clause-word
unfolding to_bits
returns-then-is_nan-clause-word c = sym (ap (to_bits binary32) (nan_is _ (sym c.is_nan.ensures.value ∙ c.if-is_nan.true)))

pub returns-else-is_nan-clause-short : goal.returns-else-is_nan-clause-short
returns-else-is_nan-clause-short c = omega (arith, to_bits-lt binary32 c.args.self (search rules))
