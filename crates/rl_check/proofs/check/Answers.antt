-- Where one of the three slices of the stack check is short, the image is refused before `load` is called (`short_three`); else `judge` is lent the
-- first 4,096 elements of each, and its answer is that for all of them (`checks_more`).

use mathlib.Core.Path.{refl, sym, ◌∙◌}
use native.Mathlib.Omega.{arith}
use lib.ListN.{take}
use lib.Seq.{length-take-le}
use Rattle.image.specs.Answer.{slices}
use Rattle.rl_check.specs.Work.{check_work}
use Rattle.rl_check.proofs.Checking.{short_three, short_checks, checks_more}
use Rattle.rl_check.proofs.check.Goals as goal
use Rattle.rl_check.proofs.check.Goals.{then-is_short, else-is_short}

pub slice_bounds-work-end-else-is_short : goal.slice_bounds-work-end-else-is_short
slice_bounds-work-end-else-is_short c = sym (length-take-le 4096 c.args.heights.now (c.is_short.ensures.long c.if-is_short.false).0)

pub slice_bounds-work-end-else-is_short-3 : goal.slice_bounds-work-end-else-is_short-3
slice_bounds-work-end-else-is_short-3 c = sym (length-take-le 4096 c.args.depths.now (c.is_short.ensures.long c.if-is_short.false).1)

pub slice_bounds-work-end-else-is_short-5 : goal.slice_bounds-work-end-else-is_short-5
slice_bounds-work-end-else-is_short-5 c = sym (length-take-le 4096 c.args.todo.now (c.is_short.ensures.long c.if-is_short.false).2)

pub invariant_of-work : goal.invariant_of-work
invariant_of-work c =
    let long = c.is_short.ensures.long c.if-is_short.false in
    let h = length-take-le 4096 c.args.heights.now long.0 in
    let d = length-take-le 4096 c.args.depths.now long.1 in
    let t = length-take-le 4096 c.args.todo.now long.2 in
    record { long_depths = omega arith; long_todo = omega arith }

pub judge-answer-requires : goal.judge-answer-requires
judge-answer-requires c =
    let h = length-take-le 4096 c.args.heights.now (c.is_short.ensures.long c.if-is_short.false).0 in
    omega arith

pub returns-clause-answer : goal.returns-clause-answer
returns-clause-answer c =
    let a = c.args in
    let m = slices a.bytes.now a.ends.now a.kinds.now a.payloads.now a.table.now in
    let all = check_work m a.heights.now a.depths.now a.todo.now in
    let cut = check_work m (take 4096 a.heights.now) (take 4096 a.depths.now) (take 4096 a.todo.now) in
    elim c.if-is_short.branch [
      | then-is_short w ↦ rw w.answer-is (short_checks a.image.now all (short_three all (sym c.is_short.ensures.says ∙ w.if-is_short.true)))
      | else-is_short w ↦
          (let long = c.is_short.ensures.long w.if-is_short.false in
          let h = length-take-le 4096 a.heights.now long.0 in
          let d = length-take-le 4096 a.depths.now long.1 in
          let t = length-take-le 4096 a.todo.now long.2 in
          rw w.answer-is
          (checks_more cut all refl (omega (arith, h)) (omega (arith, d)) (omega (arith, t)) long.0 long.1 long.2 w.judge-answer.ensures))
    ]
