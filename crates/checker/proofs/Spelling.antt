-- From the line of an answer to the line of the definition's answer.
use mathlib.Core.Path.{◌≡◌, subst}
use mathlib.Core.Logic.{◌↔◌}
use mathlib.Core.Bool.{false}
use mathlib.Core.List.{List}
use Prim.Native.Nat.{ℕ, ◌≤◌, ◌<◌}
use native.Mathlib.Omega.{arith}
use borrow.Author.Tests.{le-ltb}
use lib.ListN.{length, take}
use Rattle.definition.specs.Lines.{Load}
use Rattle.definition.specs.Answers as definition
use Rattle.rl_check.specs.Work.{CheckWork, check_short}
use Rattle.rl_check.specs.Check.{answer_of, Checks}
use Rattle.rl_check.specs.declared.CheckAnswer.{CheckAnswer}
use Rattle.image_input.specs.Read.{ReadOf}
use Rattle.image_input.proofs.Parts.{same_load}
use Rattle.checker.specs.Line.{checker_line, Says}

-- slices of the lengths that `check` asks for
pub not_short :
    (w : CheckWork) → length w.loading.bytes ≡ 32768 → length w.loading.ends ≡ 256 → length w.loading.kinds ≡ 13107
    → length w.loading.payloads ≡ 13107 → length w.loading.table ≡ 260 → length w.heights ≡ 4096 → length w.depths ≡ 4096
    → length w.todo ≡ 4096 → check_short w ≡ false
unfolding check_short
not_short w b e k p t h d o =
    rw (
      le-ltb (length w.heights) 4096 (omega arith),
      le-ltb (length w.depths) 4096 (omega arith),
      le-ltb (length w.todo) 4096 (omega arith),
      le-ltb (length w.loading.bytes) 32768 (omega arith),
      le-ltb (length w.loading.ends) 256 (omega arith),
      le-ltb (length w.loading.kinds) 13107 (omega arith),
      le-ltb (length w.loading.payloads) 13107 (omega arith),
      le-ltb (length w.loading.table) 260 (omega arith),
    )

pub says :
    (bytes line : List ℕ) (w : CheckWork) (a : CheckAnswer) → Checks bytes w a → check_short w ≡ false → line ≡ checker_line (answer_of a) → Says bytes line
says bytes line w a k s p = record { answer = answer_of a; decided = k.decides s; shown = p }

-- the line of what was read of an input is the input's
pub of_input : (read input line : List ℕ) (n : ℕ) → 65536 < length read → n ≤ length read → Says (take n read) line → ReadOf read n input → Says input line
of_input read input line n h l s r =
    record {
      answer = s.answer;
      decided = subst (λ (loaded : Load). (a : definition.CheckAnswer) → (s.answer ≡ a) ↔ definition.AnswersLoaded loaded a) (same_load read input n h l r) s.decided;
      shown = s.shown;
    }
