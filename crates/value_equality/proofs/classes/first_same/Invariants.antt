-- No number below u is the same as t.

use mathlib.Core.Bool.{false}
use Prim.Native.Nat.{ℕ, ◌<◌}
use Rattle.value_equality.proofs.classes.first_same.Given as goal

abbrev pub invariant-loop-u : goal.invariant-loop-u
invariant-loop-u g l = (j : ℕ) → j < l.u → goal.F-post g l.same j l.t false
