-- Each turn judges one chunk: those below c pass, so the first that does not is the lowest, and at the end all pass.

use Rattle.stack_check.specs.Answer.{PassBelow}
use Rattle.stack_check.specs.Slices.{SameSlices, AsLong}
use Rattle.stack_check.proofs.Work.judge_all.Given as goal

abbrev pub invariant-loop-c : goal.invariant-loop-c
invariant-loop-c l =
    record {
      pass : PassBelow l.image l.c;
      long : AsLong l.initial.self l.self;
      same : SameSlices l.initial.self l.self;
    }
