-- The line of what was read is that of the whole input.
use Rattle.checker.proofs.Spelling.{of_input}
use Rattle.checker.proofs.input_line.Goals as goal

pub returns : goal.returns
returns c = λ input r. of_input c.args.read.now input _ c.args.n c.requires.0 c.requires.1 c.answer_line.ensures r
