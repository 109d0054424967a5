-- `stack_check::node_of` meets its contract: the numbers of an instruction are small, and its change less what is counted is a change. Assumes nothing.

use native.Mathlib.Omega.{arith}
use mathlib.Core.Path.{refl}
use Prim.Native.Nat.{◌*◌}
use Rattle.stack_check.proofs.Nodes.{node_is, limits}
use Rattle.stack_check.proofs.Sums.{less_back}
use Rattle.stack_check.proofs.node_of.Goals as goal

pub returns : goal.returns
returns c =
    let i = c.args.i in
    let l = limits i c.requires (omega (arith, c.well_formed)) _ c.from.ensures in
    node_is i _ _ _ _ _ _ c.from.ensures refl c.flow_effect-t.ensures c.targets-first.ensures.0 c.targets-first.ensures.1
    (less_back i.row.change (i.row.per * c.from.result) l.rises l.falls l.counted)
