-- By induction on how deep the value nests. In the loop what is left and the codes of the parts before i come to what the header left.
use mathlib.Core.Path.{◌≡◌}
use Prim.Native.Nat.{◌+◌, ◌≤◌}
use lib.ListN.{length, take, drop}
use Rattle.values.specs.Flat.{block_of}
use Rattle.values.specs.Cells.{trees_of, cells_of}
use Rattle.value_coding.proofs.Codes.{codes}
use Rattle.value_coding.proofs.coding.+measure.Given as goal

abbrev pub decreases-measure : goal.decreases-measure
decreases-measure l = (block_of l.v).nest

abbrev pub invariant-loop-i : goal.invariant-loop-i
invariant-loop-i l = (l.i ≤ l.count) × (l.left + length (codes l.nc (take l.i (drop l.start (trees_of (cells_of l.nc l.cells))))) ≡ l.initial.left)
