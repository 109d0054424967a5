-- The runner's line, of what `run` answers.
use Rattle.std.specs.Prelude.{List, ℕ}
use Rattle.definition.specs.Runner.{answer_line}
use Rattle.run_answers.specs.declared.RunAnswer.{RunAnswer}
use Rattle.run_answers.specs.Run.{answer_of}

-- the line of an answer, the result slice holding this
abbrev pub line_of : RunAnswer → List ℕ → List ℕ
line_of a result = answer_line (answer_of a result)
