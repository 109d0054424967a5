-- With slices too short or trees too deep nothing is compared, as the contract says; else the two calls of `nest` give what `equal` asks,
-- and its answer is that for the trees.

use native.Mathlib.Omega.{arith}
use mathlib.Core.Logic.{inr}
use Prim.Native.Nat.{◌*◌, ◌≤◌}
use Rattle.shared_values.proofs.Nesting.{empty_asks, equal_asks, equal_gives, nested_at, too_nested}
use Rattle.shared_values.proofs.shared_subtrees.compare_in.Goals as goal

pub nest-requires : goal.nest-requires
nest-requires c = empty_asks c.args.cells.now c.if-cells-lt8192.false

pub equal-requires : goal.equal-requires
equal-requires c =
    let a = c.args in
    equal_asks a.left a.left_last a.right a.right_last a.depth c.in-Ok.n c.in-Ok-nest.m a.cells.now c.nest.new.cells c.nest-2.new.cells
    c.clear.new.a c.in-Ok.a c.in-Ok-nest.b c.clear.ensures (let h = c.clear.auto in omega (arith, c.if-memo-lt4096.false, h))
    (nested_at a.left a.left_last a.depth 0 a.cells.now c.nest.new.cells c.in-Ok.is c.nest.ensures) (nested_at a.right a.right_last a.depth c.in-Ok.n c.nest.new.cells c.nest-2.new.cells c.in-Ok-nest.is c.nest-2.ensures)

pub returns : goal.returns
returns c =
    let a = c.args in
    equal_gives a.left a.left_last a.right a.right_last a.depth c.in-Ok.n c.in-Ok-nest.m a.cells.now c.nest.new.cells c.nest-2.new.cells _
    c.in-Ok.a c.in-Ok-nest.b c.equal.result (nested_at a.left a.left_last a.depth 0 a.cells.now c.nest.new.cells c.in-Ok.is c.nest.ensures) (nested_at a.right a.right_last a.depth c.in-Ok.n c.nest.new.cells c.nest-2.new.cells c.in-Ok-nest.is c.nest-2.ensures) c.equal.ensures

pub returns-in_default : goal.returns-in_default
returns-in_default c =
    let a = c.args in
    inr (inr (too_nested a.left a.left_last a.depth 0 a.cells.now c.nest.new.cells (omega arith) c.in_default.is c.nest.ensures))

pub returns-in_default-nest : goal.returns-in_default-nest
returns-in_default-nest c =
    let a = c.args in
    let at = nested_at a.left a.left_last a.depth 0 a.cells.now c.nest.new.cells c.in-Ok.is c.nest.ensures in
    let h : c.in-Ok.n ≤ 4 * a.depth = omega (arith, at.count) in
    inr (inr (too_nested a.right a.right_last a.depth c.in-Ok.n c.nest.new.cells c.nest-2.new.cells h c.in_default-nest.is c.nest-2.ensures))
