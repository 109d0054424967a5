-- `inspect` gives the definition's fault, and the reason made of it keeps its number; that it finds none contradicts what is required.

use mathlib.Core.Path.{refl, ◌∙◌}
use Rattle.stack_check.specs.Node.{chunk_in}
use Rattle.stack_check.proofs.Nodes.{kinds_back}
use Rattle.stack_check.proofs.Found.{fault_number, is_clean}
use Rattle.stack_check.proofs.fault_reason.Goals as goal

pub returns-in-Err : goal.returns-in-Err
returns-in-Err c =
    c.from.ensures ∙ fault_number (c.inspect.ensures (chunk_in c.args.chunk) refl (kinds_back c.args.chunk.kinds.now)) c.in-Err.is

pub returns-in-Ok : goal.returns-in-Ok
returns-in-Ok c =
    absurd (c.requires (is_clean (c.inspect.ensures (chunk_in c.args.chunk) refl (kinds_back c.args.chunk.kinds.now)) c.in-Ok.is))
