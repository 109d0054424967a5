-- A refused image is blanked (`settled_refused`); a loaded one stays.
use Rattle.std.proofs.Common.{sym, ◌∙◌}
use Rattle.image.proofs.Reading.{settled_refused}
use Rattle.image.proofs.load_roomy.Goals as goal

pub returns-then-is_refused-clause-settled : goal.returns-then-is_refused-clause-settled
returns-then-is_refused-clause-settled c =
    let read = c.load_lines-answer in
    settled_refused _ _ _ _ read.result read.ensures.loads (sym c.is_refused.ensures ∙ c.if-is_refused.true) c.blank.ensures.zero
