-- The word of the f64 nearest to the UInt is read back as that f64. Assumes nothing.

use borrow.Author.Rules.{rules}
use Rattle.std.proofs.Common.{ap, ◌∙◌, rules}
use lib.Ieee.{binary64, of_bits}
use lib.Ieee.Bits.{of_bits-to_bits}
use Rattle.number_casts.proofs.uint_to_float_word.Goals as goal

pub returns : goal.returns
returns c =
    let nearest = c.nearest_u64_to_f64 in
    ap (of_bits binary64) c.to_word.ensures.word ∙ of_bits-to_bits binary64 nearest.result (search rules) ∙ nearest.ensures
