-- Three ways: a fault below `low`, a fault that is not, and an instruction that `handle` takes. `Progress` holds after each, one offset on.

use mathlib.Core.Path.{refl}
use Rattle.stack_check.proofs.Nodes.{kinds_back}
use Rattle.stack_check.proofs.Found.{is_faulty, is_clean, is_here}
use Rattle.stack_check.specs.Node.{chunk_in}
use Rattle.stack_check.proofs.Theory.{step_lower, step_higher, step_handled}
use Rattle.stack_check.proofs.Work.step.Goals as goal

pub returns-then-at-low-clause-progress : goal.returns-then-at-low-clause-progress
returns-then-at-low-clause-progress c =
    let inspect = c.inspect in
    let args = c.args in
    let pre = c.requires in
    step_lower pre.0 pre.1 _ refl (is_faulty (inspect.ensures (chunk_in args.chunk) refl (kinds_back args.chunk.kinds.now)) c.in-Err.is)
    c.if-at-low.true

pub returns-else-at-low-clause-progress : goal.returns-else-at-low-clause-progress
returns-else-at-low-clause-progress c =
    let inspect = c.inspect in
    let args = c.args in
    let pre = c.requires in
    step_higher pre.0 pre.1 _ refl (is_faulty (inspect.ensures (chunk_in args.chunk) refl (kinds_back args.chunk.kinds.now)) c.in-Err.is)
    c.if-at-low.false

pub handle-r-requires : goal.handle-r-requires
handle-r-requires c =
    let inspect = c.inspect in
    let args = c.args in
    let pre = c.requires in (
      pre.0,
      pre.0.listed _ pre.1,
      is_clean (inspect.ensures (chunk_in args.chunk) refl (kinds_back args.chunk.kinds.now))
          c.in-Ok.is,
      is_here (inspect.ensures (chunk_in args.chunk) refl (kinds_back args.chunk.kinds.now)) c.in-Ok.is,
    )

pub returns-in-Ok-clause-progress : goal.returns-in-Ok-clause-progress
returns-in-Ok-clause-progress c =
    let inspect = c.inspect in
    let args = c.args in
    step_handled c.requires.1 (is_clean (inspect.ensures (chunk_in args.chunk) refl (kinds_back args.chunk.kinds.now)) c.in-Ok.is)
    c.handle-r.ensures.handled
