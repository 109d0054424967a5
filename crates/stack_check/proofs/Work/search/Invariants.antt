-- Each turn handles one offset of `todo`: `Progress` holds throughout, and `head` rises, at most to the length of `heights`.

use Rattle.std.proofs.Common.{◌-◌, length}
use Rattle.stack_check.specs.Node.{chunk_in}
use Rattle.stack_check.specs.Progress.{Progress}
use Rattle.stack_check.specs.Slices.{SameSlices, AsLong}
use Rattle.stack_check.proofs.Work.search.Given as goal

abbrev pub invariant-loop-s : goal.invariant-loop-s
invariant-loop-s l =
    record {
      progress : Progress (chunk_in l.chunk) l.self.heights.now l.self.depths.now l.self.todo.now l.s;
      long : AsLong l.initial.self l.self;
      same : SameSlices l.initial.self l.self;
    }

abbrev pub decreases-loop-s : goal.decreases-loop-s
decreases-loop-s l = length l.self.heights.now - l.s.head
