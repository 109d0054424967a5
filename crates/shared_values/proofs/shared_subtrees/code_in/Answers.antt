-- With cells too few or a tree too deep nothing is coded, as the contract says; else `nest` gives what `code_value` asks, and what it codes
-- is the tree.

use mathlib.Core.Path.{refl}
use mathlib.Core.Logic.{inr}
use native.Mathlib.Omega.{arith}
use lib.ListN.{length}
use Rattle.shared_values.specs.Nested.{not_built}
use Rattle.shared_values.proofs.Nesting.{empty_asks, code_asks, code_gives, nested_at, too_nested}
use Rattle.shared_values.proofs.shared_subtrees.code_in.Goals as goal

pub nest-requires : goal.nest-requires
nest-requires c = empty_asks c.args.cells.now c.if-cells-lt8192.false

pub code_value-requires : goal.code_value-requires
code_value-requires c =
    let a = c.args in
    code_asks a.leaf a.last a.depth c.in-Ok.n a.cells.now c.nest.new.cells c.in-Ok.a (nested_at a.leaf a.last a.depth 0 a.cells.now c.nest.new.cells c.in-Ok.is c.nest.ensures)

pub returns : goal.returns
returns c =
    let a = c.args in
    code_gives a.leaf a.last a.depth c.in-Ok.n a.cells.now c.nest.new.cells c.in-Ok.a (length a.cells.now) a.out.now _ c.code_value.result (nested_at a.leaf a.last a.depth 0 a.cells.now
    c.nest.new.cells c.in-Ok.is c.nest.ensures) c.code_value.ensures

pub returns-in_default : goal.returns-in_default
returns-in_default c =
    let a = c.args in
    not_built (inr (too_nested a.leaf a.last a.depth 0 a.cells.now c.nest.new.cells (omega arith) c.in_default.is c.nest.ensures)) refl refl
