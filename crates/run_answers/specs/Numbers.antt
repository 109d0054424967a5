-- An answer of `run` as plain numbers.
use Rattle.std.specs.Prelude.{◌≡◌, ℕ}
use Rattle.image.specs.Answer.{number_of}
use Rattle.vm_acts.specs.Reasons.{reason_number}
use Rattle.run_answers.specs.declared.RunAnswer.{RunAnswer}
use Rattle.run_answers.specs.declared.run_numbers.RunNumbers.{RunNumbers}
use Rattle.run_answers.specs.declared.RunAnswer.TheVariants.{Refused, Value, Stop}

-- document 01's number; 0 for a value
abbrev pub run_number : RunAnswer → ℕ
run_number (Refused r k) = number_of r
run_number (Value n size) = 0
run_number (Stop s) = reason_number s.reason

-- the count of instructions begun; 0 for a refusal
abbrev pub run_count : RunAnswer → ℕ
run_count (Refused r k) = 0
run_count (Value n size) = n
run_count (Stop s) = s.count

-- how many bytes of the result slice a value has, the line of a refusal, the chunk and the offset of a stop; else 0
abbrev pub run_length : RunAnswer → ℕ
run_length (Refused r k) = 0
run_length (Value n size) = size
run_length (Stop s) = 0

abbrev pub run_line : RunAnswer → ℕ
run_line (Refused r k) = k
run_line (Value n size) = 0
run_line (Stop s) = 0

abbrev pub run_chunk : RunAnswer → ℕ
run_chunk (Refused r k) = 0
run_chunk (Value n size) = 0
run_chunk (Stop s) = s.chunk

abbrev pub run_offset : RunAnswer → ℕ
run_offset (Refused r k) = 0
run_offset (Value n size) = 0
run_offset (Stop s) = s.offset

-- these are the numbers of an answer
pub record AreNumbersOf (a : RunAnswer) (n : RunNumbers) : Type 0 where
  pub number_is : n.number ≡ run_number a
  pub count_is : n.count ≡ run_count a
  pub length_is : n.length ≡ run_length a
  pub line_is : n.line ≡ run_line a
  pub chunk_is : n.chunk ≡ run_chunk a
  pub offset_is : n.offset ≡ run_offset a
