-- The word of the f64 nearest to the Int is read back as that f64. Assumes nothing.

use borrow.Author.Rules.{rules}
use Rattle.std.proofs.Common.{ap, ◌∙◌, to_z-of_z, w64, rules}
use lib.Ieee.{binary64, of_bits, of_int}
use lib.Ieee.Bits.{of_bits-to_bits}
use Rattle.number_casts.proofs.int_to_float_word.Goals as goal

pub returns : goal.returns
returns c =
    ap (of_bits binary64) c.to_word.ensures.word ∙ of_bits-to_bits binary64 c.nearest_f64.result (search rules) ∙ c.nearest_f64.ensures
    ∙ ap (of_int binary64) (c.from.ensures ∙ to_z-of_z {w = w64} {z = c.cast_signed.result} (search rules) ∙ c.cast_signed.ensures)
