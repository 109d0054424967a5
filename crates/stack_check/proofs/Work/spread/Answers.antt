-- Nothing comes after an instruction that ends; else the two visits arrive at all that comes after, and the second keeps what the first noted.

use mathlib.Core.Path.{refl}
use Rattle.stack_check.proofs.Theory.{coming_later, spread_two}
use mathlib.Core.Logic.{inl, inr}
use Rattle.stack_check.proofs.Work.spread.Goals as goal

pub visit-s1-requires : goal.visit-s1-requires
visit-s1-requires c =
    let if1 = c.if-node in
    let pre = c.requires in
    (pre.0, pre.1 _ (if1.false, inl refl))

pub visit-requires : goal.visit-requires
visit-requires c =
    let visit = c.visit-s1 in
    let if1 = c.if-node in
    let pre = c.requires
    in
    (visit.ensures.visited.progress, coming_later (visit.ensures.visited.kept.grows) (pre.1 _ (if1.false, inr refl)))

pub returns-clause-spread : goal.returns-clause-spread
returns-clause-spread c =
    let visit2 = c.visit in
    let visit = c.visit-s1 in
    spread_two _ visit.ensures.visited visit2.ensures.visited
