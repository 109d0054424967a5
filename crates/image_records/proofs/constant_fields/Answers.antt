-- A first byte that is no kind's is not listed.
use Rattle.std.proofs.Common.{arith}
use Rattle.image_records.proofs.Fields.{unlisted}
use Rattle.image_records.proofs.constant_fields.Goals as goal

pub returns-in_default : goal.returns-in_default
returns-in_default c = let h = unlisted _ c.in_default.ensures.1 in grind (arith, h, c.from.ensures)
