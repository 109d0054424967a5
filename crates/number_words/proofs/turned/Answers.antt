-- The code tests p as `turn` does: either way both sides compute to the same, and that it is one of the kind's places is arithmetic.

use borrow.Author.Tests.{lt-ltb, le-ltb}
use native.Mathlib.Omega.{arith}
use mathlib.Core.Path.{sym, ap}
use mathlib.Core.Bool.{Bool, cond}
use Prim.Native.Nat.{◌+◌, ◌-◌}
use Rattle.number_words.proofs.turned.Goals as goal

pub overflow_sub-others : goal.overflow_sub-others
overflow_sub-others c = omega (arith, c.requires.0.1.negatives, c.requires.0.1.numbers)

pub overflow_add-result : goal.overflow_add-result
overflow_add-result c =
    let pre = c.requires in
    omega (arith, c.if-p-others.true, pre.0.1.few)

pub returns-then-p-others : goal.returns-then-p-others
returns-then-p-others c =
    let args = c.args in (
      sym (ap (λ (t : Bool). cond t (args.p + args.n.negatives) (args.p - (args.n.numbers - args.n.negatives))) (lt-ltb _ _ c.if-p-others.true)),
      omega (arith, c.if-p-others.true),
    )

pub returns-else-p-others : goal.returns-else-p-others
returns-else-p-others c =
    let args = c.args in
    let pre = c.requires in (
      sym (ap (λ (t : Bool). cond t (args.p + args.n.negatives) (args.p - (args.n.numbers - args.n.negatives))) (le-ltb _ _ c.if-p-others.false)),
      omega (arith, pre.1),
    )
