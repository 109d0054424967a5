-- The checker's line, in the way of the runner's (crate `definition`, specs/Runner.antt): `pass`, `fault` number, chunk and offset (these two padded
-- with zeros to 4 digits), or `refused` number, line; all decimal, one space between, a line feed at the end.
use Rattle.std.specs.Prelude.{◌≡◌, List, [], ◌∷◌, ℕ}
use Rattle.definition.specs.CheckAnswer.{Checked, pass, fails}
use Rattle.definition.specs.Answers.{CheckAnswer, checked, DecidesBytes}
use Rattle.definition.specs.Runner.{ascii, decimal, padded, words}

abbrev pub checked_line : Checked → List ℕ
checked_line pass = words (ascii "pass" ∷ [])
checked_line (fails n c p) = words (ascii "fault" ∷ decimal n ∷ padded c ∷ padded p ∷ [])

abbrev pub checker_line : CheckAnswer → List ℕ
checker_line (CheckAnswer.refusal n k) = words (ascii "refused" ∷ decimal n ∷ decimal k ∷ [])
checker_line (checked r) = checked_line r

-- this is the line of the answer that the rules give to the bytes
pub record Says (bytes line : List ℕ) : Type 0 where
  pub answer : CheckAnswer
  pub decided : DecidesBytes bytes answer
  pub shown : line ≡ checker_line answer
