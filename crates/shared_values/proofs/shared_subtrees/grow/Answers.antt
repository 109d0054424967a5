-- One array, then the other; what fails would pass a most (`first_fails`, `second_fails`).

use native.Mathlib.Omega.{arith}
use Rattle.std.proofs.lemmas.Result.{err_from_is_err_and}
use Rattle.shared_values.proofs.Nesting.{first_fails, second_fails}
use Rattle.shared_values.proofs.shared_subtrees.grow.Goals as goal

pub returns-in_err-v : goal.returns-in_err-v
returns-in_err-v c =
    let a = c.args in
    let p = err_from_is_err_and c.from_residual.result c.from_residual.ensures.1 in
    rw p.1 (first_fails a.x a.y a.nc a.cells.now c.pair.new.cells _ c.in_err-v.ensures c.requires.0 c.requires.1)

pub pair-requires-2 : goal.pair-requires-2
pair-requires-2 c =
    let pre = c.requires in
    let same = c.pair.auto.cells in
    let room = c.in_ok-v.ensures.room in
    (omega (arith, pre.0), room, pre.2, pre.2)

pub returns-in_err-w : goal.returns-in_err-w
returns-in_err-w c =
    let a = c.args in
    let p = err_from_is_err_and c.from_residual-in_err-w.result c.from_residual-in_err-w.ensures.1 in
    rw p.1 (second_fails a.x a.y _ a.nc a.cells.now c.pair.new.cells c.pair-2.new.cells _ c.in_ok-v.ensures c.in_err-w.ensures c.requires.0
    c.pair.auto.cells)

pub returns : goal.returns
returns c = record { between = c.pair.new.cells; between_length = c.pair.auto.cells; path = c.in_ok-v.ensures; shared = c.in_ok-w.ensures }
