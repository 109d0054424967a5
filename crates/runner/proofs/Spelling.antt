-- From the line of an answer to the line of the definition's answer.
use mathlib.Core.Path.{◌≡◌, ap, ◌∙◌}
use mathlib.Core.Bool.{false}
use mathlib.Core.List.{List}
use Prim.Native.Nat.{ℕ, ◌≤◌, ◌<◌}
use native.Mathlib.Omega.{arith}
use borrow.Author.Tests.{le-ltb}
use lib.ListN.{length, take}
use Rattle.definition.specs.Lines.{Load}
use Rattle.definition.specs.Answers as definition
use Rattle.definition.specs.Runner.{answer_line, runner_line}
use Rattle.image.specs.Answer.{Slices}
use Rattle.run_answers.specs.Run.{Own, any_short, run_short, RunAnswered}
use Rattle.run_answers.specs.declared.RunAnswer.{RunAnswer}
use Rattle.image_input.specs.Read.{ReadOf}
use Rattle.image_input.proofs.Parts.{same_load}
use Rattle.runner.specs.Line.{line_of}

-- slices of the lengths that `run` asks for
not_short :
    (m : Slices) (o : Own) → length m.bytes ≡ 32768 → length m.ends ≡ 256 → length m.kinds ≡ 13107 → length m.payloads ≡ 13107
    → length m.table ≡ 260 → length o.texts ≡ 257 → length o.classes ≡ 65 → length o.stack ≡ 512 → length o.locals ≡ 2048
    → length o.starts ≡ 256 → length o.globals ≡ 512 → length o.cells ≡ 8192 → length o.memo ≡ 4096
    → run_short m o ≡ false
unfolding any_short
not_short m o b e k p t x c s l n g y w =
    rw (
      le-ltb (length o.texts) 257 (omega arith),
      le-ltb (length o.classes) 65 (omega arith),
      le-ltb (length o.stack) 512 (omega arith),
      le-ltb (length o.locals) 2048 (omega arith),
      le-ltb (length o.starts) 256 (omega arith),
      le-ltb (length o.globals) 512 (omega arith),
      le-ltb (length o.cells) 8192 (omega arith),
      le-ltb (length o.memo) 4096 (omega arith),
      le-ltb (length m.bytes) 32768 (omega arith),
      le-ltb (length m.ends) 256 (omega arith),
      le-ltb (length m.kinds) 13107 (omega arith),
      le-ltb (length m.payloads) 13107 (omega arith),
      le-ltb (length m.table) 260 (omega arith),
    )

pub says :
    (bytes : List ℕ) {m : Slices} {o : Own} {a : RunAnswer} {before after : List ℕ} → RunAnswered bytes 1000000 m o before after a
    → length m.bytes ≡ 32768 → length m.ends ≡ 256 → length m.kinds ≡ 13107 → length m.payloads ≡ 13107
    → length m.table ≡ 260 → length o.texts ≡ 257 → length o.classes ≡ 65 → length o.stack ≡ 512 → length o.locals ≡ 2048
    → length o.starts ≡ 256 → length o.globals ≡ 512 → length o.cells ≡ 8192 → length o.memo ≡ 4096
    → length before ≡ 4096 → line_of a after ≡ runner_line bytes
unfolding runner_line
says bytes {m} {o} r b e k p t x c s l n g y w room =
    ap answer_line (r.answers (not_short m o b e k p t x c s l n g y w)) ∙ ap (λ (size : ℕ). answer_line (definition.run_answer bytes 1000000 size)) room

-- the line of what was read of an input is the input's
pub of_input :
    (read input line : List ℕ) (n : ℕ) → 65536 < length read → n ≤ length read → line ≡ runner_line (take n read) → ReadOf read n input
    → line ≡ runner_line input
unfolding runner_line definition.run_answer
of_input read input line n h l p r = p ∙ ap (λ (loaded : Load). answer_line (definition.run_loaded loaded 1000000 4096)) (same_load read input n h l r)
