-- Each turn takes one line more: by `Reading`, the lines from `at` on, read after what the state and the slices hold, give what
-- the whole image gives. The bytes left fall.

use Rattle.std.proofs.Common.{rules}
use mathlib.Core.Path.{refl, ◌∙◌}
use Rattle.image.specs.Reading.{work}
use Rattle.image.proofs.Reading.{reading_start, reading_next, reading_ready, reading_stop, reading_end}
use Rattle.std.proofs.lemmas.Result.{err_from_is_err_and}
use Rattle.image.proofs.load_lines.Goals as goal

pub loop-at-init : goal.loop-at-init
loop-at-init c =
    record {
      long = refl;
      same = search rules;
      reading = reading_start c.args.image.now (work c.args.bytes.now c.args.tables.now) c.requires.0;
    }

pub loop-at-preserved : goal.loop-at-preserved
loop-at-preserved c =
    let loop = c.loop-at in
    let taken = c.take_line in
    record {
      long = taken.auto.bytes ∙ loop.invariant.long;
      same = search rules;
      reading =
          reading_next c.args.image.now (work c.args.bytes.now c.args.tables.now) (work loop.bytes loop.tables)
          (work taken.new.bytes taken.new.tables) loop.s loop.at loop.k taken.result loop.invariant.reading taken.ensures.takes
          c.in-Next.state c.in-Next.next (c.in_ok-state.was ∙ rw c.in-Next.is);
    }

pub returns-in-Ready-clause-loads : goal.returns-in-Ready-clause-loads
returns-in-Ready-clause-loads c =
    let loop = c.loop-at in
    let taken = c.take_line in
    reading_ready c.args.image.now (work c.args.bytes.now c.args.tables.now) (work loop.bytes loop.tables)
    (work taken.new.bytes taken.new.tables) loop.s loop.at loop.k taken.result loop.invariant.reading taken.ensures.takes c.in-Ready.t
    (c.in_ok-state.was ∙ rw c.in-Ready.is)

pub returns-in_err-state-clause-loads : goal.returns-in_err-state-clause-loads
returns-in_err-state-clause-loads c =
    let loop = c.loop-at in
    let taken = c.take_line in
    let err = err_from_is_err_and c.from_residual.result c.from_residual.ensures.1 in
    rw (err.1, err.2)
    (reading_stop c.args.image.now (work c.args.bytes.now c.args.tables.now) (work loop.bytes loop.tables)
    (work taken.new.bytes taken.new.tables) loop.s loop.at loop.k taken.result loop.invariant.reading taken.ensures.takes _
    c.in_err-state.was c.requires.0)

pub returns-clause-loads : goal.returns-clause-loads
returns-clause-loads c =
    let loop = c.loop-at in
    reading_end c.args.image.now (work c.args.bytes.now c.args.tables.now) (work loop.bytes loop.tables) loop.s loop.at loop.k
    loop.invariant.reading c.loop-at-test.false c.requires.0
