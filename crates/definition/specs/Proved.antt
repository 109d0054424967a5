-- What is proved of the definition, at trees. Each claim is proved for any values in proofs/, where it speaks of values at all.
use Rattle.definition.specs.Trees.{trees}
use Rattle.definition.specs.Loaded.{EveryLoadKept}
use Rattle.definition.specs.Equality.{EqualDecided}
use Rattle.definition.specs.StackCheck.{HeightByChange}
use Rattle.definition.specs.KeptValues.{ValuesKept, ValuesWellFormed}
use Rattle.definition.specs.Endings.{EndingsPlaced, RepliesPlaced}
use Rattle.definition.specs.CheckAnswer.{Settled}
use Rattle.definition.specs.Answers.{BytesSettled, PassedProtected}
use Rattle.definition.specs.Examples.{ExamplesRight}
use Rattle.definition.specs.Witnesses.{Witnessed}
use Rattle.definition.specs.Callers.{Demand3}
use Rattle.definition.specs.Claims.{Begins, Runs, OneRun, OneReply, Counts, CountsOfSteps, TableRight, TableOfSteps, FaultsOfSteps, Changes, Returns, LowerSlots}

pub record Proved : Type 0 where
  -- a called function never costs its caller anything
  pub demand3 : Demand3 trees
  pub passed_protected : PassedProtected
  pub begins : Begins trees
  -- every image has its run, and one only
  pub runs : Runs trees
  pub one_run : OneRun trees
  pub one_reply : OneReply trees
  -- the count is that of the instructions begun, within the budget
  pub counts : Counts trees
  pub counts_of_steps : CountsOfSteps trees
  -- the table is that of the steps
  pub table_right : TableRight trees
  pub table_of_steps : TableOfSteps trees
  pub height_by_change : HeightByChange
  -- what the check calls 10, 12 or 11 is what a step stops with
  pub faults_of_steps : FaultsOfSteps trees
  -- no step changes a slot below its frame's base
  pub lower_slots : LowerSlots trees
  -- frames go on only by a Call, and off only by a Return, a Propagate of an Err or the code's end
  pub changes : Changes trees
  pub returns : Returns trees
  -- the rules settle what the check answers
  pub settled : Settled
  pub bytes_settled : BytesSettled
  -- Eq says whether two trees are equal
  pub equal_decided : EqualDecided
  -- what every loaded image keeps
  pub every_load_kept : EveryLoadKept
  -- what every value of a run keeps: numbers in their kind's range, Chars, texts and chunks that exist
  pub values_kept : ValuesKept
  pub values_well_formed : ValuesWellFormed
  -- a stop's number and place
  pub endings_placed : EndingsPlaced
  pub replies_placed : RepliesPlaced
  -- the worked images
  pub examples_right : ExamplesRight
  -- and nothing of this is true of nothing
  pub witnessed : Witnessed
