-- By the nesting of the value, which is less for each part. Each turn measures one part more: what is left and the codes of the parts so
-- far come to what the header left.

use Rattle.value_coding.proofs.Codes.{over_header, less_next, asks_next, over_part, next_left, end_left}
use Rattle.values.specs.Flat.{block_of}
use native.Mathlib.Omega.{arith}
use mathlib.Core.Path.{subst}
use Prim.Native.Nat.{ℕ, ◌<◌}
use Rattle.value_coding.proofs.coding.+measure.Goals as goal

pub returns-then-room-header : goal.returns-then-room-header
returns-then-room-header t c =
    let Block-of = c.block_of-b in
    let args = c.args in
    over_header args.cells.now args.nc args.v Block-of.result c.header_of-header.result c.requires Block-of.ensures c.header_of-header.ensures
    args.room c.if-room-header.true

pub loop-i-init : goal.loop-i-init
loop-i-init t c = (omega arith, omega arith)

pub measure-requires : goal.measure-requires
measure-requires t c =
    let loop = c.loop-i in
    let header_of = c.header_of-header in
    let Block-of = c.block_of-b in
    let args = c.args in
    let l = c.loop-i-test.true in (
      subst (λ (j : ℕ). (block_of c.load_value-part.result).nest < j) c.decreases (less_next args.cells.now
          args.nc args.v Block-of.result header_of.result c.requires Block-of.ensures header_of.ensures loop.i c.load_value-part.result
          l c.load_value-part.ensures.0),
      asks_next args.cells.now args.nc args.v Block-of.result header_of.result c.requires Block-of.ensures
          header_of.ensures loop.i c.load_value-part.result l c.load_value-part.ensures.0,
    )

pub returns-in_err-left : goal.returns-in_err-left
returns-in_err-left t c =
    let measure2 = c.measure in
    let load_value = c.load_value-part in
    let loop_test = c.loop-i-test in
    let loop = c.loop-i in
    let header_of = c.header_of-header in
    let Block-of = c.block_of-b in
    let args = c.args in
    rw c.from_residual.ensures (over_part args.cells.now args.nc args.v Block-of.result header_of.result c.requires Block-of.ensures header_of.ensures args.room
    loop.left loop.i load_value.result measure2.result loop_test.true load_value.ensures.0 (omega (arith, loop.invariant.1)) measure2.ensures
    c.in_err-left.was)

pub loop-i-preserved : goal.loop-i-preserved
loop-i-preserved t c =
    let measure2 = c.measure in
    let load_value = c.load_value-part in
    let loop_test = c.loop-i-test in
    let loop = c.loop-i in
    let header_of = c.header_of-header in
    let Block-of = c.block_of-b in
    let args = c.args in
    let l = loop_test.true in (
      omega arith,
      omega (
        arith,
        next_left args.cells.now args.nc args.v Block-of.result header_of.result c.requires
            Block-of.ensures header_of.ensures args.room loop.left loop.i c.in_ok-left.left load_value.result measure2.result l load_value.ensures.0
            (omega (arith, loop.invariant.1)) measure2.ensures c.in_ok-left.was,
      ),
    )

pub returns : goal.returns
returns t c =
    let header_of = c.header_of-header in
    let Block-of = c.block_of-b in
    let args = c.args in
    let z = c.loop-i-test.false in let y = c.loop-i.invariant.0 in end_left args.cells.now args.nc args.v Block-of.result
    header_of.result c.requires Block-of.ensures header_of.ensures args.room c.loop-i.left c.loop-i.i (omega arith)
    (omega (arith, c.loop-i.invariant.1))
