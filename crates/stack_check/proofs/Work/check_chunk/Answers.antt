-- What `judge` finds for the chunk of this code and these kinds holds for every chunk with them.

use mathlib.Core.Path.{sym}
use Rattle.stack_check.proofs.Whole.{answer_for}
use Rattle.stack_check.proofs.Work.check_chunk.Goals as goal

pub returns-clause-answer : goal.returns-clause-answer
returns-clause-answer c =
    let judge = c.judge-answer in
    λ k e q. answer_for k c.args.code.now c.args.kinds.now judge.result (sym e) (sym q) judge.ensures.answer
