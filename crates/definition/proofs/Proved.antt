-- What is proved of the definition, together.
use Rattle.definition.specs.Trees.{trees}
use Rattle.definition.specs.Proved.{Proved}
use Rattle.definition.proofs.Protected.{begins, demand3, passed_protected}
use Rattle.definition.proofs.Frames.{runs, changes, call_returns, table_right}
use Rattle.definition.proofs.TableOfSteps.{table_of_steps}
use Rattle.definition.proofs.ChangeOfHeight.{height_by_change}
use Rattle.definition.proofs.FaultsOfSteps.{faults_of_steps}
use Rattle.definition.proofs.LowerSlots.{lower_slots}
use Rattle.definition.proofs.OneRun.{one_run, one_reply}
use Rattle.definition.proofs.Spent.{counts}
use Rattle.definition.proofs.CountsOfSteps.{counts_of_steps}
use Rattle.definition.proofs.OneAnswer.{settled, bytes_settled}
use Rattle.definition.proofs.Equality.{equal_decided}
use Rattle.definition.proofs.Keeps.{loads_kept}
use Rattle.definition.proofs.KeptValues.{values_kept}
use Rattle.definition.proofs.WellFormed.{values_well_formed}
use Rattle.definition.proofs.Endings.{endings_placed, replies_placed}
use Rattle.definition.proofs.Answers.{examples_right}
use Rattle.definition.proofs.Witnesses.{witnessed}

pub proved : Proved
proved = record {
  demand3 = demand3 trees;
  passed_protected = passed_protected;
  begins = begins trees;
  runs = runs trees;
  one_run = one_run trees;
  one_reply = one_reply trees;
  counts = counts trees;
  counts_of_steps = counts_of_steps trees;
  table_right = table_right trees;
  table_of_steps = table_of_steps trees;
  height_by_change = height_by_change;
  faults_of_steps = faults_of_steps trees;
  lower_slots = lower_slots trees;
  changes = changes trees;
  returns = call_returns trees;
  settled = settled;
  bytes_settled = bytes_settled;
  equal_decided = equal_decided;
  every_load_kept = loads_kept;
  values_kept = values_kept;
  values_well_formed = values_well_formed;
  endings_placed = endings_placed;
  replies_placed = replies_placed;
  examples_right = examples_right;
  witnessed = witnessed;
}
