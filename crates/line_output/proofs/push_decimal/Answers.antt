-- The text of the kit's `itoa` is the definition's `decimal`.
use Rattle.std.proofs.Common.{rules, ap, ◌∙◌, ◌++◌, List, ℕ}
use Rattle.line_output.proofs.Shown.{decimal_shown}
use Rattle.line_output.proofs.push_decimal.Goals as goal

pub returns-clause-text : goal.returns-clause-text
returns-clause-text g c =
    c.push_str.ensures.bytes ∙ ap (λ (l : List ℕ). c.args.line.now.bytes ++ l) (c.format.ensures.text ∙ decimal_shown c.args.n (search rules))
