-- No line of an answer begins before the loop's place, and `begins` says whether a line begins there.
use Rattle.std.proofs.Common.{◌≡◌, ℕ, ◌<◌, false}
use Rattle.case_list.specs.Cases.{line_begins, answer_begins}
use Rattle.case_list.proofs.Cases.answer_at.Given as goal

abbrev pub invariant-loop-i : goal.invariant-loop-i
invariant-loop-i l =
    record {
      line : l.begins ≡ line_begins l.self.list.now l.i;
      none : (k : ℕ) → k < l.i → answer_begins l.self k ≡ false;
    }
