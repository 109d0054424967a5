-- The work arrays have the lengths that `run` asks for, so its answer is the definition's for the bytes.
use mathlib.Core.Path.{◌∙◌}
use borrow.Author.Rules.{rules}
use Rattle.runner.proofs.Spelling.{says}
use Rattle.runner.proofs.answer_line.Goals as goal

pub returns : goal.returns
returns c =
    c.line_of.ensures ∙ says c.args.image.now
    c.run-answer.ensures.answer
    (search rules) (search rules) (search rules) (search rules) (search rules) (search rules) (search rules) (search rules) (search rules) (search
    rules) (search rules) (search rules) (search rules) (search rules)
