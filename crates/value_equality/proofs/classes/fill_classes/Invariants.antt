-- The classes below t are noted.

use mathlib.Core.Path.{◌≡◌}
use mathlib.Core.Bool.{Bool}
use Prim.Native.Nat.{ℕ, ◌<◌}
use lib.ListN.{length, get_or}
use Rattle.value_equality.specs.Classes.{FoundBy}
use Rattle.value_equality.proofs.classes.fill_classes.Given as goal

abbrev pub invariant-loop-t : goal.invariant-loop-t
invariant-loop-t g l =
    (length l.classes ≡ length l.initial.classes) × ((j : ℕ) → j < l.t → FoundBy (λ (u : ℕ) (r : Bool). goal.F-post g l.same u j r) j (get_or l.classes j 0))
