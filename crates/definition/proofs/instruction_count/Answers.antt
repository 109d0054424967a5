-- `op_codes` unfolds to a list of 38; what the contract says of the definition besides is `proved`.

use mathlib.Core.Path.{refl}
use Rattle.definition.specs.Table.{op_codes}
use Rattle.definition.proofs.Proved.{proved}
use Rattle.definition.proofs.instruction_count.Goals as goal

pub returns : goal.returns
unfolding op_codes
returns c = (refl, proved)
