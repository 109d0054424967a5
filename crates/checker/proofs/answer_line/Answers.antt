-- The work arrays have the lengths that `check` asks for, so its answer is the one that the rules give to the bytes.
use borrow.Author.Rules.{rules}
use Rattle.checker.proofs.Spelling.{not_short, says}
use Rattle.checker.proofs.answer_line.Goals as goal

pub returns : goal.returns
returns c =
    says c.args.image.now _ _ c.check.result c.check.ensures.answer
    (not_short _ (search rules) (search rules) (search rules) (search rules) (search rules) (search rules) (search rules) (search rules))
    c.line_of.ensures
