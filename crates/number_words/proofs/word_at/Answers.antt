-- Below all places, at one, or above all.
use native.Mathlib.Omega.{arith}
use mathlib.Core.Path.{refl}
use Prim.Native.Nat.{◌+◌, ◌≤◌}
use Rattle.number_words.proofs.Places.{sub_same, at_place, below_all, above_all}
use Rattle.number_words.proofs.word_at.Goals as goal

pub returns-then-place-n : goal.returns-then-place-n
returns-then-place-n c =
    let args = c.args in
    λ k i. at_place k args.n i _ c.in-Some.place _ (sub_same args.up (args.n.negatives + args.down) c.in-Some.place args.n.negatives (omega (arith, c.in-Some.ensures)))
    c.if-place-n.true c.turned.ensures.0

pub returns-else-place-n : goal.returns-else-place-n
returns-else-place-n c =
    let args = c.args in
    λ k i. above_all k args.n i _ args.up (args.n.negatives + args.down) refl (omega (arith, c.in-Some.ensures, c.if-place-n.false))

pub returns-in_default : goal.returns-in_default
returns-in_default c =
    let args = c.args in
    let past : args.down ≤ args.up → ⊥ = c.in_default.ensures in
    λ k i. below_all k args.n i _ args.up (args.n.negatives + args.down) refl (omega (arith, past))
