-- Each turn puts both values one array deeper.

use mathlib.Core.Path.{◌≡◌}
use Prim.Native.Nat.{◌≤◌}
use lib.ListN.{length}
use Rattle.numbers.specs.declared.Number.{Number}
use Rattle.values.specs.declared.VmValue.TheVariants.{Num}
use Rattle.shared_values.proofs.Nesting.{Twins}
use Rattle.shared_values.proofs.shared_subtrees.nest.Given as goal

abbrev pub invariant-loop : goal.invariant-loop
invariant-loop l = (l.counter ≤ l.depth) × (length l.cells ≡ length l.initial.cells) × ((leaf last : Number) → l.initial.x ≡ Num leaf → l.initial.y ≡ Num
    last → Twins leaf last l.counter l.nc l.initial.cells l.cells l.x l.y l.n)
