-- v with the bytes still to come is the number of all, and v is below 256 to the power of how many were read.
use Rattle.std.proofs.Common.{◌≡◌, ◌^◌, ◌<◌, drop}
use Rattle.definition.specs.Lines.{number_from}
use Rattle.image_records.proofs.number.Given as goal

abbrev pub invariant-loop-x : goal.invariant-loop-x
invariant-loop-x l = record {
  small : l.v < 256 ^ l.x-index;
  same : number_from l.v (drop l.x-index l.b) ≡ number_from 0 l.b;
}
