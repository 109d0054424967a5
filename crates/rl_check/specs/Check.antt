-- What `check` answers (document 01, "Answers of each operation", "The stack check").
use Rattle.std.specs.Prelude.{◌≡◌, true, false, ◌↔◌, List, ℕ, ◌≤◌}
use Rattle.definition.specs.Image.{Image}
use Rattle.definition.specs.Lines.{image, load_image}
use Rattle.definition.specs.Loaded.{ImageKept}
use Rattle.definition.specs.Trees.{trees}
use Rattle.definition.specs.Run.{run}
use Rattle.definition.specs.CheckAnswer.{pass, fails}
use Rattle.definition.specs.Answers as definition
use Rattle.definition.specs.Callers.{Protected}
use Rattle.image.specs.Answer.{number_of}
use Rattle.image.specs.declared.loaded.Loaded.{Loaded}
use Rattle.image_records.specs.declared.Reason.TheVariants.{ShortSlice}
use Rattle.stack_check.specs.Answer.{reason_number, Holds}
use Rattle.rl_check.specs.Work.{CheckWork, check_short}
use Rattle.rl_check.specs.declared.CheckAnswer.{CheckAnswer}
use Rattle.rl_check.specs.declared.CheckAnswer.TheVariants.{Refused, Pass, Fault}

-- the definition's answer, with document 01's numbers, that an answer of the code stands for
abbrev pub answer_of : CheckAnswer → definition.CheckAnswer
answer_of (Refused r k) = definition.CheckAnswer.refusal (number_of r) k
answer_of Pass = definition.checked pass
answer_of (Fault r c p) = definition.checked (fails (reason_number r) c p)

-- demand 3 of the bytes: every run of the image that they are, with any budget, gives each caller back what it had, and stops with none of
-- 30, 31, 32, 33 and 36
abbrev pub EveryRunProtected : List ℕ → Type 0
EveryRunProtected bytes = (im : Image) → load_image bytes ≡ image im → (budget : ℕ) → Protected trees im (run trees im budget)

-- r is what `check` answers to these bytes in slices of these lengths
pub record Checks (bytes : List ℕ) (w : CheckWork) (r : CheckAnswer) : Type 0 where
  -- "9 exactly if a work slice is below its length", with line 0, whatever the bytes
  pub short : (check_short w ≡ true) ↔ (r ≡ Refused ShortSlice 0)
  -- otherwise it is an answer exactly if the definition's rules give that answer: "Load (first in every operation)", then "Check"
  pub decides : check_short w ≡ false → definition.DecidesBytes bytes (answer_of r)
  -- what a pass promises of every run
  pub protected : r ≡ Pass → EveryRunProtected bytes

-- Inner step: an image that was loaded lies in the slices, and there is room for the stack check of any
pub record Ready (m : Loaded) (room : ℕ) : Type 0 where
  pub found : Image
  pub held : Holds m found
  pub kept : ImageKept found
  pub long : 4096 ≤ room

-- Inner step: r is what the rules say of every image that lies in the slices
abbrev pub Judges : Loaded → CheckAnswer → Type 0
Judges m r = (im : Image) → Holds m im → definition.AnswersLoaded (image im) (answer_of r)
