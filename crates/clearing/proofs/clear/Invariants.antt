-- The elements up to the loop's place are zero.
use Rattle.std.proofs.Common.{◌≡◌, ℕ, get_or, ◌<◌}
use Rattle.clearing.proofs.clear.Given as goal

abbrev pub invariant-loop-x : goal.invariant-loop-x
invariant-loop-x g l = (i : ℕ) → i < l.x-index → get_or l.a i g.T.Zero.ZERO ≡ g.T.Zero.ZERO
