-- The code tests c against n as the contract does: either way both sides compute to the same number.

use borrow.Author.Tests.{lt-ltb, le-ltb}
use Rattle.value_equality.proofs.classes.row_number.Goals as goal

pub returns-then-c-n : goal.returns-then-c-n
returns-then-c-n c = rw (lt-ltb _ _ c.if-c-n.true)

pub returns-else-c-n : goal.returns-else-c-n
returns-else-c-n c = rw (le-ltb _ _ c.if-c-n.false)
