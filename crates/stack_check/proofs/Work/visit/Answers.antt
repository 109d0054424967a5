-- Control comes past the end, to an offset not seen yet, which is noted, or to one seen. Where height or depth do not agree, no assignment
-- of heights exists, and `bad` is set.

use native.Mathlib.Omega.{arith}
use Prim.Native.Nat.{ℕ, ◌≤◌, ◌<◌}
use Rattle.stack_check.proofs.Theory.{positive, visit_past, visit_wrong, visit_new, visit_same, room_left, wrong_end, wrong_height, wrong_depth}
use Rattle.stack_check.proofs.Work.visit.Goals as goal

apart : {a b : ℕ} → a < b → b ≤ a → ⊥
apart x y = omega arith

pub returns-then-h-eq0-clause-visited : goal.returns-then-h-eq0-clause-visited
returns-then-h-eq0-clause-visited c =
    let pre = c.requires in
    rw c.if-h-eq0.true (visit_past pre.0 _ _ c.if-chunk-to.true)

pub returns-else-h-eq0-clause-visited : goal.returns-else-h-eq0-clause-visited
returns-else-h-eq0-clause-visited c =
    let pre = c.requires in
    visit_wrong pre.0 _ _ _ (λ m. absurd (apart m c.if-chunk-to.true)) (wrong_end pre.0 _ _ _ pre.1 c.if-chunk-to.true c.if-h-eq0.false)

pub bounds-self-s : goal.bounds-self-s
bounds-self-s c =
    let if1 = c.if-chunk-to in
    let pre = c.requires in
    let r = room_left pre.0 _ _ _ pre.1 if1.false c.if-self-to-eq0.true in omega (arith, pre.0.long_todo)

pub returns-then-self-to-eq0-clause-visited : goal.returns-then-self-to-eq0-clause-visited
returns-then-self-to-eq0-clause-visited c =
    let if1 = c.if-chunk-to in
    let pre = c.requires in
    visit_new pre.0 _ _ _ pre.1 if1.false c.if-self-to-eq0.true

pub returns-then-self-to-2-clause-visited : goal.returns-then-self-to-2-clause-visited
returns-then-self-to-2-clause-visited c =
    let if4 = c.if-self-to in
    let if1 = c.if-chunk-to in
    let pre = c.requires in
    visit_same pre.0 _ _ _ if1.false if4.true c.if-self-to-2.true

pub returns-else-self-to-2-clause-visited : goal.returns-else-self-to-2-clause-visited
returns-else-self-to-2-clause-visited c =
    let if3 = c.if-self-to-eq0 in
    let if1 = c.if-chunk-to in
    let pre = c.requires in
    visit_wrong pre.0 _ _ _ (λ m. positive _ if3.false) (wrong_depth pre.0 _ _ _ pre.1 if1.false (positive _ if3.false) c.if-self-to-2.false)

pub returns-clause-visited : goal.returns-clause-visited
returns-clause-visited c =
    let if3 = c.if-self-to-eq0 in
    let if1 = c.if-chunk-to in
    let pre = c.requires in
    visit_wrong pre.0 _ _ _ (λ m. positive _ if3.false) (wrong_height pre.0 _ _ _ pre.1 if1.false (positive _ if3.false) c.if-self-to.false)
