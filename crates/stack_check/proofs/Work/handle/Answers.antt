-- `stack_check::handle` meets its contract. `node` says that the node made is the one at the offset. Assumes nothing.

use native.Mathlib.Omega.{arith}
use Rattle.stack_check.proofs.Found.{drawn, node_here}
use Rattle.stack_check.proofs.Theory.{progress_broken, unfit_wrong, coming_wrong, coming_right, change_room, depth_small, tail_small, handling_right, handling_wrong}
use Rattle.stack_check.proofs.Work.handle.Goals as goal

pub node_of-node-requires : goal.node_of-node-requires
node_of-node-requires c =
    drawn c.requires.3 (omega (arith, c.well_formed))

pub spread-requires : goal.spread-requires
spread-requires c =
    let if1 = c.if-not-meets in
    let meets2 = c.meets in
    let node_of = c.node_of-node in
    let node = node_here c.requires.3 node_of.ensures in
    let wrong = unfit_wrong c.requires.0 _ c.requires.1 c.requires.2 node (meets2.ensures.not if1.true) in
    (progress_broken c.requires.0 wrong, coming_wrong c.requires.0 _ c.requires.1 c.requires.2 node _ wrong)

pub returns-then-not-meets-clause-handled : goal.returns-then-not-meets-clause-handled
returns-then-not-meets-clause-handled c =
    let spread = c.spread in
    let node_of = c.node_of-node in
    let node = node_here c.requires.3 node_of.ensures in
    handling_wrong c.requires.0 _ c.requires.1 c.requires.2 node spread.ensures.spread

pub height_after-h2-requires : goal.height_after-h2-requires
height_after-h2-requires c =
    let node_of = c.node_of-node in
    let node = node_here c.requires.3 node_of.ensures in
    change_room c.requires.0 _ c.requires.1 c.requires.2 node (c.meets.ensures.yes c.if-not-meets.false).enough (omega (arith, c.well_formed))

pub overflow_add-d2 : goal.overflow_add-d2
overflow_add-d2 c =
    let node_of = c.node_of-node in
    let node = node_here c.requires.3 node_of.ensures in
    let x = depth_small c.requires.0 _ c.requires.1 c.requires.2 node in
    let y = tail_small c.requires.0 _ c.requires.1 c.requires.2 node in
    omega (arith, c.well_formed)

pub spread-requires-2 : goal.spread-requires-2
spread-requires-2 c =
    let height_after = c.height_after-h2 in
    let node_of = c.node_of-node in
    let node = node_here c.requires.3 node_of.ensures in
    rw height_after.ensures (c.requires.0, coming_right c.requires.0 _ c.requires.1 c.requires.2 node)

pub returns-clause-handled : goal.returns-clause-handled
returns-clause-handled c =
    let spread2 = c.spread-2 in
    let height_after = c.height_after-h2 in
    let if1 = c.if-not-meets in
    let meets2 = c.meets in
    let node_of = c.node_of-node in
    let node = node_here c.requires.3 node_of.ensures in
    let fit = meets2.ensures.yes if1.false in
    handling_right c.requires.0 _ c.requires.1 c.requires.2 node fit (rw height_after.ensures at spread2.ensures.spread)
