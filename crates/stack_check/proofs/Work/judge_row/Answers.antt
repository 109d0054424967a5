-- The row and the next one lie within the table, so the two slices that `judge` gets are the chunk's code and kinds; its answer is that of the row.

use Rattle.stack_check.proofs.Whole.{answer_for}
use Rattle.stack_check.proofs.Work.judge_row.Goals as goal

pub returns-clause-answer : goal.returns-clause-answer
returns-clause-answer c = λ k H. answer_for k _ _ c.judge.result H.code_is H.kinds_are c.judge.ensures.answer
