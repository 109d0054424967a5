-- Each turn puts both values one array deeper (`next_twins`); where it can't, the whole tree would pass a most (`turn_fails`).

use mathlib.Core.Path.{◌≡◌, refl, ◌∙◌, subst}
use native.Mathlib.Omega.{arith}
use Prim.Native.Nat.{ℕ}
use Rattle.std.proofs.lemmas.Result.{err_from_is_err_and}
use Rattle.shared_values.specs.Nested.{NestedAt}
use Rattle.shared_values.proofs.Nesting.{first_twins, next_twins, turn_fails}
use Rattle.shared_values.proofs.shared_subtrees.nest.Goals as goal

pub loop-init : goal.loop-init
loop-init c = (omega arith, refl, λ l m e f. first_twins c.args.leaf c.args.last l m c.args.nc c.args.cells.now c.requires e f)

pub grow-requires : goal.grow-requires
grow-requires c =
    let t = c.loop.invariant.2 c.args.leaf c.args.last refl refl in
    (t.path.asks.words, t.path.asks.few, t.fit, t.path.fit)

pub returns-in_err-v : goal.returns-in_err-v
returns-in_err-v c =
    let a = c.args in
    let p = err_from_is_err_and c.from_residual.result c.from_residual.ensures.1 in
    rw p.1 (turn_fails a.leaf a.last c.loop.counter a.nc c.loop.n a.depth a.cells.now c.loop.cells c.loop.x c.loop.y (c.loop.invariant.2 a.leaf
    a.last refl refl) c.loop-test.true c.in_err-v.ensures)

pub loop-preserved : goal.loop-preserved
loop-preserved c = (
  omega (arith, c.loop-test.true),
  c.grow.auto.cells ∙ c.loop.invariant.1,
  λ l m e f. next_twins l m c.loop.counter c.args.nc c.loop.n c.args.cells.now c.loop.cells c.grow.new.cells c.loop.x c.loop.y c.in_ok-v.v
      c.in_ok-v.w (c.loop.invariant.2 l m e f) c.grow.auto.cells c.in_ok-v.ensures,
)

pub returns : goal.returns
returns c =
    let a = c.args in
    let e : c.loop.counter ≡ a.depth = omega (arith, c.loop-test.false, c.loop.invariant.0) in
    subst (λ (d : ℕ). NestedAt a.leaf a.last d a.nc a.cells.now c.loop.cells c.loop.y c.loop.n) e (c.loop.invariant.2 a.leaf a.last refl refl).path
