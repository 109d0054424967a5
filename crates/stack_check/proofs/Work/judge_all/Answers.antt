-- Each turn judges one chunk: those below c pass, so the first that does not is the lowest, and at the end all pass.

use Rattle.stack_check.proofs.Whole.{row_lent, fault_decided, pass_decided}
use Rattle.stack_check.proofs.Work.judge_all.Goals as goal

pub judge_row-requires : goal.judge_row-requires
judge_row-requires c = row_lent c.args.image c.loop-c.c c.requires c.loop-c.invariant.long.0 c.loop-c-test.true

pub returns-in-Err-clause-answer : goal.returns-in-Err-clause-answer
returns-in-Err-clause-answer c = fault_decided c.args.image c.loop-c.c _ _ c.loop-c-test.true c.in-Err.is c.judge_row.ensures.answer c.loop-c.invariant.pass

pub returns-clause-answer : goal.returns-clause-answer
returns-clause-answer c = pass_decided c.args.image c.loop-c.c c.loop-c-test.false c.loop-c.invariant.pass
