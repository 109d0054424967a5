-- The bytes so far and those from the loop's place on are all printable exactly if all of them are.
use Rattle.std.proofs.Common.{◌≡◌, ◌&&◌, drop}
use Rattle.definition.specs.Lines.{printable}
use Rattle.image_records.proofs.plain.Given as goal

abbrev pub invariant-loop-x : goal.invariant-loop-x
invariant-loop-x l = (l.fine && printable (drop l.x-index l.b)) ≡ printable l.b
