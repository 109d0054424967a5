-- Three ways: a value that `code_value` codes, one too long for the slice, and a stop, which leaves the slice as it is.

use Rattle.run_answers.proofs.Running.{value_held, value_ends, long_ends, stop_ends, ended_as}
use Rattle.run_answers.proofs.code_end.Goals as goal

pub code_value-requires : goal.code_value-requires
code_value-requires c =
    let args = c.args in
    let pre = c.requires in
    value_held args.end args.cells.now _ c.in-Ok.is pre

pub shape_of-res-in-Some : goal.shape_of-res-in-Some
shape_of-res-in-Some c =
    let code_value = c.code_value in
    code_value.auto.out

pub returns-in-Some : goal.returns-in-Some
returns-in-Some c =
    let code_value = c.code_value in
    let args = c.args in
    ended_as args.end _ args.cells.now args.res.now code_value.new.out _ c.in-Ok.is (value_ends args.cells.now
    args.res.now code_value.new.out _ _ _ code_value.result _ c.in-Some.is code_value.ensures)

pub shape_of-res-in-None : goal.shape_of-res-in-None
shape_of-res-in-None c =
    let code_value = c.code_value in
    code_value.auto.out

pub returns-in-None : goal.returns-in-None
returns-in-None c =
    let code_value = c.code_value in
    let args = c.args in
    ended_as args.end _ args.cells.now args.res.now code_value.new.out _ c.in-Ok.is (long_ends args.cells.now args.res.now
    code_value.new.out _ _ _ code_value.result c.in-None.is code_value.ensures)

pub returns-in-Err : goal.returns-in-Err
returns-in-Err c =
    let args = c.args in
    ended_as args.end _ args.cells.now args.res.now args.res.now _ c.in-Err.is (stop_ends args.cells.now
    args.res.now _)
