-- An answer of `run` as plain numbers, for a caller in C or Rust.
use Rattle.std.specs.Prelude.{◌≡◌, List, ℕ}
use Rattle.image.specs.Answer.{Slices}
use Rattle.run_answers.specs.Run.{Own, RunAnswered}
use Rattle.run_answers.specs.Numbers.{run_number, run_count, run_length, run_line, run_chunk, run_offset}
use Rattle.run_answers.specs.declared.RunAnswer.{RunAnswer}

-- the six numbers are those of what `run` answers to these bytes with this budget, in work slices m and o, with the result slice before and after
pub record RunsAs (bytes : List ℕ) (budget : ℕ) (m : Slices) (o : Own) (before after : List ℕ) (number count size line chunk offset : ℕ) : Type 0 where
  pub answer : RunAnswer
  pub runs : RunAnswered bytes budget m o before after answer
  pub number_is : number ≡ run_number answer
  pub count_is : count ≡ run_count answer
  pub length_is : size ≡ run_length answer
  pub line_is : line ≡ run_line answer
  pub chunk_is : chunk ≡ run_chunk answer
  pub offset_is : offset ≡ run_offset answer
