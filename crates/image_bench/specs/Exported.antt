-- What the exported function answers: 0 for a loaded image, and else document 01's number of the refusal.
use Rattle.std.specs.Prelude.{◌≡◌, List, ℕ, Ok, Err}
use Rattle.image.specs.Answer.{number_of, Slices, LoadAnswer, Loads}

abbrev pub code_of : LoadAnswer → ℕ
code_of (Ok n) = 0
code_of (Err f) = number_of f.reason

pub record Exported (bytes : List ℕ) (m : Slices) (r : ℕ) (m' : Slices) : Type 0 where
  pub answer : LoadAnswer
  pub number : r ≡ code_of answer
  pub loads : Loads bytes m answer m'
