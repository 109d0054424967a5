-- What the function of rl_vm answers, as it is called: with each argument in its place.
use Rattle.rl_vm_c.proofs.rl_vm_run.Goals as goal

pub returns-clause-answer : goal.returns-clause-answer
returns-clause-answer c = c.rl_vm_run.ensures.answer
