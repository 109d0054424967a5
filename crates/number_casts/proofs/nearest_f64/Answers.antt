-- Rounding to nearest even is the same on both sides of zero.
use Rattle.std.proofs.Common.{sym, ap, ◌∙◌}
use lib.Ieee.{binary64, neg, of_int}
use Rattle.number_operands.proofs.SignMagnitudes.{value_neg}
use Rattle.number_casts.proofs.CastLaws.{float_neg}
use Rattle.number_casts.proofs.nearest_f64.Goals as goal

pub returns-then-x-ne0 : goal.returns-then-x-ne0
returns-then-x-ne0 c =
    let x = c.args.x in
    ap neg c.nearest_u64_to_f64-nearest.ensures ∙ float_neg x.magnitude c.if-x-ne0.true ∙ sym (ap (of_int binary64) (value_neg x c.if-x.true))
