-- Where `measure` says that the coding fits, `write_value` has the room that it asks for; where it does not fit, nothing is written.

use Rattle.value_coding.proofs.Codes.{coded_fits, over_long, coded_room}
use Rattle.value_coding.specs.Coding.{code_of}
use Rattle.value_coding.proofs.coding.code_value.Goals as goal

pub write_value-requires : goal.write_value-requires
write_value-requires c =
    let measure2 = c.measure in
    let args = c.args in
    let pre = c.requires in
    (pre, coded_room (code_of args.cells.now args.nc args.v) args.out.now measure2.result _ measure2.ensures c.in_ok-measure.was)

pub returns : goal.returns
returns c =
    let write_value = c.write_value in
    let measure2 = c.measure in
    let args = c.args in
    let pre = c.requires in
    coded_fits args.cells.now args.nc args.v pre args.out.now _ measure2.result _ write_value.result measure2.ensures
    c.in_ok-measure.was write_value.ensures.0 write_value.ensures.1

pub returns-in_err-measure : goal.returns-in_err-measure
returns-in_err-measure c =
    let measure2 = c.measure in
    let args = c.args in
    let pre = c.requires in
    rw c.from_residual.ensures (over_long args.cells.now args.nc args.v pre args.out.now measure2.result measure2.ensures c.in_err-measure.was)
