-- A first byte of no record is out of order.
use Rattle.std.proofs.Common.{sym}
use Rattle.std.proofs.lemmas.Result.{err_from_is_err_and}
use Rattle.image_records.proofs.Fields.{no_record}
use Rattle.image_records.proofs.record_of.Goals as goal

pub returns-in_err-try_from : goal.returns-in_err-try_from
returns-in_err-try_from c =
    let err = err_from_is_err_and c.from_residual.result c.from_residual.ensures.1 in
    let told = rw c.in_err-try_from.was at c.try_from.ensures in
    rw (err.1, err.2, told.0) (sym (no_record _ _ _ told.1))
