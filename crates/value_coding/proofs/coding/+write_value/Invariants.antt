-- By induction on how deep the value nests. In the loop the codes of the parts before i are written (`Wrote`).
use Rattle.values.specs.Flat.{block_of}
use Rattle.values.specs.Cells.{trees_of, cells_of}
use Rattle.value_coding.proofs.Codes.{Wrote}
use Rattle.value_coding.proofs.coding.+write_value.Given as goal

abbrev pub decreases-write_value : goal.decreases-write_value
decreases-write_value l = (block_of l.v).nest

abbrev pub invariant-loop-i : goal.invariant-loop-i
invariant-loop-i l = Wrote l.nc (trees_of (cells_of l.nc l.cells)) l.count l.start l.initial.out l.out l.initial.end l.end l.i
