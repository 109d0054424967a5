-- By the nesting of the value, which is less for each part. Each turn writes one part more: behind the header stand the codes of the first
-- i parts; the parts left fall.

use Rattle.value_coding.proofs.Codes.{wrote_none, room_header, room_all, room_next, wrote_next, wrote_end, less_next, asks_next}
use Rattle.values.specs.Flat.{block_of}
use native.Mathlib.Omega.{arith}
use mathlib.Core.Path.{subst}
use Prim.Native.Nat.{ℕ, ◌<◌}
use Rattle.value_coding.proofs.coding.+write_value.Goals as goal

pub write_header-end-requires : goal.write_header-end-requires
write_header-end-requires t c =
    let Block-of = c.block_of-b in
    let args = c.args in
    room_header args.cells.now args.nc args.v Block-of.result c.header_of.result c.requires.0 Block-of.ensures c.header_of.ensures
    args.out.now args.at c.requires.1

pub loop-i-init : goal.loop-i-init
loop-i-init t c =
    let write_header = c.write_header-end in
    let header_of = c.header_of in
    let Block-of = c.block_of-b in
    let args = c.args in
    wrote_none _ _ _ _ _ _ (let r = room_all args.cells.now args.nc args.v Block-of.result header_of.result c.requires.0 Block-of.ensures
    header_of.ensures args.out.now args.at c.requires.1 write_header.new.out write_header.result write_header.ensures.1
    write_header.ensures.0 in omega arith)

pub write_value-end-requires : goal.write_value-end-requires
write_value-end-requires t c =
    let loop_test = c.loop-i-test in
    let loop = c.loop-i in
    let write_header = c.write_header-end in
    let header_of = c.header_of in
    let Block-of = c.block_of-b in
    let args = c.args in
    let l = loop_test.true in (
      subst (λ (j : ℕ). (block_of c.load_value-part.result).nest < j) c.decreases (less_next args.cells.now args.nc
          args.v Block-of.result header_of.result c.requires.0 Block-of.ensures header_of.ensures loop.i c.load_value-part.result
          l c.load_value-part.ensures.0),
      (
        asks_next args.cells.now args.nc args.v Block-of.result header_of.result c.requires.0
            Block-of.ensures header_of.ensures loop.i c.load_value-part.result l c.load_value-part.ensures.0,
        room_next args.cells.now
            args.nc args.v Block-of.result header_of.result c.requires.0 Block-of.ensures header_of.ensures args.out.now args.at
            c.requires.1 write_header.new.out write_header.result write_header.ensures.1 write_header.ensures.0 loop.out loop.end loop.i
            loop.invariant c.load_value-part.result l c.load_value-part.ensures.0,
      ),
    )

pub loop-i-preserved : goal.loop-i-preserved
loop-i-preserved t c =
    let write_value2 = c.write_value-end in
    let load_value = c.load_value-part in
    let loop_test = c.loop-i-test in
    let loop = c.loop-i in
    let write_header = c.write_header-end in
    let header_of = c.header_of in
    let Block-of = c.block_of-b in
    let args = c.args in
    wrote_next args.cells.now args.nc args.v Block-of.result header_of.result c.requires.0 Block-of.ensures header_of.ensures
    args.out.now args.at c.requires.1 write_header.new.out write_header.result write_header.ensures.1 write_header.ensures.0
    loop.out loop.end loop.i loop.invariant load_value.result write_value2.new.out write_value2.result loop_test.true
    load_value.ensures.0 write_value2.ensures.0 write_value2.ensures.1

pub returns : goal.returns
returns t c =
    let write_header = c.write_header-end in
    let header_of = c.header_of in
    let Block-of = c.block_of-b in
    let args = c.args in
    wrote_end args.cells.now args.nc args.v Block-of.result header_of.result c.requires.0 Block-of.ensures header_of.ensures
    args.out.now args.at c.requires.1 write_header.new.out write_header.result write_header.ensures.1 write_header.ensures.0
    c.loop-i.out c.loop-i.end c.loop-i.i c.loop-i.invariant c.loop-i-test.false
