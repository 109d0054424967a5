-- Each turn writes the lowest byte of the word, the last place first: the bytes still to be written are those of the word, the others stand behind
-- place j.

use Rattle.value_coding.proofs.Codes.{tail_none, tail_length, tail_more, tail_end, length_low}
use lib.ListN.{length}
use mathlib.Core.Path.{◌≡◌}
use Prim.Native.Nat.{suc, ◌+◌, ◌-◌, ◌≤◌}
use native.Mathlib.Omega.{arith}
use Rattle.value_coding.proofs.coding.write_header.Goals as goal

pub loop-j-init : goal.loop-j-init
loop-j-init c =
    let args = c.args in
    let n = length_low args.header.size args.header.word in
    let h : suc args.at + args.header.size ≤ length args.out.now = omega (arith, c.requires) in
    tail_none args.out.now args.at args.header.size args.header.word h

pub overflow_add-out-in-loop-j : goal.overflow_add-out-in-loop-j
overflow_add-out-in-loop-j c =
    let args = c.args in
    let n = length_low args.header.size args.header.word in
    let h : suc args.at + args.header.size ≤ length args.out.now = omega (arith, c.requires) in
    let k = tail_length args.out.now args.at args.header.size args.header.word c.loop-j.out c.loop-j.word c.loop-j.j h c.loop-j.invariant in
    let le = c.loop-j.invariant.le in
    let g = c.well_formed.0.0 in
    omega arith

pub bounds-out-at : goal.bounds-out-at
bounds-out-at c =
    let args = c.args in
    let n = length_low args.header.size args.header.word in
    let h : suc args.at + args.header.size ≤ length args.out.now = omega (arith, c.requires) in
    let k = tail_length args.out.now args.at args.header.size args.header.word c.loop-j.out c.loop-j.word c.loop-j.j h c.loop-j.invariant in
    let le = c.loop-j.invariant.le in
    let g = c.well_formed.0.0 in
    omega arith

pub loop-j-preserved : goal.loop-j-preserved
loop-j-preserved c =
    let args = c.args in
    let n = length_low args.header.size args.header.word in
    let h : suc args.at + args.header.size ≤ length args.out.now = omega (arith, c.requires) in
    let e : args.at + 1 + (c.loop-j.j - 1) ≡ args.at + c.loop-j.j = omega arith in
    rw e (tail_more args.out.now args.at args.header.size args.header.word c.loop-j.out c.loop-j.word c.loop-j.j h c.loop-j-test.true c.loop-j.invariant)

pub overflow_add-result-2 : goal.overflow_add-result-2
overflow_add-result-2 c =
    let args = c.args in
    let n = length_low args.header.size args.header.word in
    let h : suc args.at + args.header.size ≤ length args.out.now = omega (arith, c.requires) in
    let k = tail_length args.out.now args.at args.header.size args.header.word c.loop-j.out c.loop-j.word c.loop-j.j h c.loop-j.invariant in
    let le = c.loop-j.invariant.le in
    let g = c.well_formed.0.0 in
    omega arith

pub returns : goal.returns
returns c =
    let args = c.args in
    let n = length_low args.header.size args.header.word in
    let h : suc args.at + args.header.size ≤ length args.out.now = omega (arith, c.requires) in
    (omega arith, tail_end args.out.now args.at args.header c.loop-j.out c.loop-j.word c.loop-j.j (omega arith) c.loop-j-test.false c.loop-j.invariant)
