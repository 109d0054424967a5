-- An answer of `check` as plain numbers, for a caller in C or Rust.
use Rattle.std.specs.Prelude.{◌≡◌, List, ℕ}
use Rattle.rl_check.specs.Work.{CheckWork}
use Rattle.rl_check.specs.Check.{Checks}
use Rattle.rl_check.specs.Numbers.{check_number, check_line, check_chunk, check_offset}
use Rattle.rl_check.specs.declared.CheckAnswer.{CheckAnswer}

-- the four numbers are those of what `check` answers to these bytes in slices of these lengths
pub record ChecksAs (bytes : List ℕ) (w : CheckWork) (number line chunk offset : ℕ) : Type 0 where
  pub answer : CheckAnswer
  pub checks : Checks bytes w answer
  pub number_is : number ≡ check_number answer
  pub line_is : line ≡ check_line answer
  pub chunk_is : chunk ≡ check_chunk answer
  pub offset_is : offset ≡ check_offset answer
