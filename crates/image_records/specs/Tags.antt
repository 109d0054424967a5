-- What a line is, by its first byte.
use Rattle.std.specs.Prelude.{◌≡◌, ℕ, Result, MatchResult}
use Rattle.image_records.specs.declared.Tag.{Tag}
use Rattle.image_records.specs.declared.Tag.TheVariants.{Text, Chunk, Constant, Code, End}
use Rattle.image_records.specs.declared.Reason.{Reason}
use Rattle.image_records.specs.declared.Reason.TheVariants.{OutOfOrder}

-- "`01` text", "`02` opens a chunk", "`03` constant", "`04` code", "`05` ends"
abbrev pub first_byte : Tag → ℕ
first_byte Text = 1
first_byte Chunk = 2
first_byte Constant = 3
first_byte Code = 4
first_byte End = 5

-- what a line with that first byte is, or "3 a first byte not `01`..`05`"
abbrev pub TagOf : ℕ → Result Tag Reason → Type 0
TagOf n r = MatchResult r (λ t. first_byte t ≡ n) (λ e. (e ≡ OutOfOrder) × ((t : Tag) → first_byte t ≡ n → ⊥))
