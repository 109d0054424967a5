-- The marks are the definition's.
use Rattle.load_replay.proofs.Marked.{marked}
use Rattle.load_replay.proofs.list.cases_of.Goals as goal

pub returns-clause-marks : goal.returns-clause-marks
returns-clause-marks c = marked
