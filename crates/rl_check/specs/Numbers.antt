-- An answer of `check` as plain numbers.
use Rattle.std.specs.Prelude.{◌≡◌, ℕ}
use Rattle.image.specs.Answer.{number_of}
use Rattle.stack_check.specs.Answer.{reason_number}
use Rattle.rl_check.specs.declared.CheckAnswer.{CheckAnswer}
use Rattle.rl_check.specs.declared.numbers_of.CheckNumbers.{CheckNumbers}
use Rattle.rl_check.specs.declared.CheckAnswer.TheVariants.{Refused, Pass, Fault}

-- document 01's number; 0 for a pass
abbrev pub check_number : CheckAnswer → ℕ
check_number (Refused r k) = number_of r
check_number Pass = 0
check_number (Fault r c p) = reason_number r

-- the line of a refusal, the chunk and the offset of a fault; else 0
abbrev pub check_line : CheckAnswer → ℕ
check_line (Refused r k) = k
check_line Pass = 0
check_line (Fault r c p) = 0

abbrev pub check_chunk : CheckAnswer → ℕ
check_chunk (Refused r k) = 0
check_chunk Pass = 0
check_chunk (Fault r c p) = c

abbrev pub check_offset : CheckAnswer → ℕ
check_offset (Refused r k) = 0
check_offset Pass = 0
check_offset (Fault r c p) = p

-- these are the numbers of an answer
pub record AreNumbersOf (a : CheckAnswer) (n : CheckNumbers) : Type 0 where
  pub number_is : n.number ≡ check_number a
  pub line_is : n.line ≡ check_line a
  pub chunk_is : n.chunk ≡ check_chunk a
  pub offset_is : n.offset ≡ check_offset a
