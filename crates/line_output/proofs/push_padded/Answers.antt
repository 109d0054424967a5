-- The zeros that are missing and the digits behind them are the definition's `padded`.
use Rattle.std.proofs.Common.{rules}
use Rattle.line_output.proofs.Shown.{padded_pushed}
use Rattle.line_output.proofs.push_padded.Goals as goal

pub returns-clause-text : goal.returns-clause-text
returns-clause-text g c =
    padded_pushed _ _ _ _ _ _ (search rules) c.format-digits.ensures.text c.missing_zeros.ensures c.push_str.ensures.bytes c.push_str-2.ensures.bytes
