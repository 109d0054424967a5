-- A place below zero's is that far down from zero, any other that far up: one case each, with the sign computed from the test.

use borrow.Author.Tests.{lt-ltb, le-ltb}
use native.Mathlib.Omega.{arith}
use mathlib.Core.Path.{refl, sym, ap, ◌∙◌}
use mathlib.Core.Bool.{Bool}
use Prim.Native.Nat.{◌-◌}
use Rattle.number_words.specs.Words.{signed}
use Rattle.number_words.proofs.Places.{down_from_zero, up_from_zero}
use Rattle.number_words.proofs.magnitude.Goals as goal

pub returns-then-x-n : goal.returns-then-x-n
returns-then-x-n c =
    let args = c.args in
    let pre = c.requires in (
      down_from_zero args.x args.n.negatives _ c.if-x-n.true refl
          ∙ sym (ap (λ (s : Bool). signed s (args.n.negatives - args.x)) (lt-ltb _ _ c.if-x-n.true)),
      omega (arith, pre.0.1.negatives, pre.0.1.numbers, pre.0.1.few, c.if-x-n.true),
    )

pub returns-else-x-n : goal.returns-else-x-n
returns-else-x-n c =
    let args = c.args in
    let pre = c.requires in (
      up_from_zero args.x args.n.negatives _ c.if-x-n.false refl
          ∙ sym (ap (λ (s : Bool). signed s (args.x - args.n.negatives)) (le-ltb _ _ c.if-x-n.false)),
      omega (arith, pre.0.1.few, pre.1),
    )
