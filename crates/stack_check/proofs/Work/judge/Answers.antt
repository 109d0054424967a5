-- At the search's end `Progress` makes the answer the definition's: the lowest fault, a pass, or no heights.

use Rattle.stack_check.specs.Node.{chunk_in}
use Rattle.stack_check.proofs.Same.{passes, lowest_to, none_to}
use Rattle.stack_check.proofs.Theory.{positive, progress_begun, empty_passes, end_fault, no_fault, end_wrong, end_right}
use Rattle.stack_check.proofs.Work.judge.Goals as goal

pub returns-then-n-eq0-clause-answer : goal.returns-then-n-eq0-clause-answer
returns-then-n-eq0-clause-answer c =
    let args = c.args in
    let x = empty_passes (chunk_in args.chunk) c.if-n-eq0.true in passes (chunk_in args.chunk) x.0
    x.1.0 x.1.1 x.1.2

pub search-s-requires : goal.search-s-requires
search-s-requires c =
    let work = c.args.self.now in
    progress_begun (chunk_in c.args.chunk) work.heights.now c.clear.new.a work.depths.now work.todo.now
    (positive _ c.if-n-eq0.false) c.clear.auto.a c.requires work.long_depths work.long_todo c.clear.ensures

pub returns-then-low-n-clause-answer : goal.returns-then-low-n-clause-answer
returns-then-low-n-clause-answer c =
    let search = c.search-s.ensures in
    lowest_to (chunk_in c.args.chunk) _ _ (end_fault search.progress search.ended _ c.fault_reason-reason.ensures c.if-low-n.true)

pub returns-then-s-clause-answer : goal.returns-then-s-clause-answer
returns-then-s-clause-answer c =
    let search = c.search-s.ensures in
    none_to (chunk_in c.args.chunk) (no_fault search.progress search.ended c.if-low-n.false)
    (end_wrong search.progress search.ended c.if-s.true)

pub returns-else-s-clause-answer : goal.returns-else-s-clause-answer
returns-else-s-clause-answer c =
    let search = c.search-s.ensures in
    passes (chunk_in c.args.chunk) (no_fault search.progress search.ended c.if-low-n.false) _ _
    (end_right search.progress search.ended c.if-s.false)
