-- Where a run can stop, and with which numbers (document 01, "Answers of each operation", "Run").
use Rattle.std.specs.Prelude.{◌≡◌, List, ℕ, ◌≤◌, ◌<◌, length}
use Rattle.definition.specs.Image.{Image, chunk_at}
use Rattle.definition.specs.Lines.{image, load_image}
use Rattle.definition.specs.Value.{Value}
use Rattle.definition.specs.Trees.{trees}
use Rattle.definition.specs.State.{stop}
use Rattle.definition.specs.Run.{Run, Reply, result, stopped, initial, IsRun, Replies}

-- A stop's number, chunk and offset: one of the numbers 30 to 46 at an instruction, that is at an offset before the end of a chunk of the
-- image; or 45 at a code's end, where "the offset is the code's length".
pub data Placed (im : Image) : ℕ → ℕ → ℕ → Type 0 where
  instruction : {n c p : ℕ} → 30 ≤ n → n ≤ 46 → c < length im.chunks → p < length (chunk_at im c).code → Placed im n c p
  end : {c : ℕ} → c < length im.chunks → Placed im 45 c (length (chunk_at im c).code)

-- the same of what the machine answers; "47: the coded result is longer than the result slice; place 0, 0"
pub data PlacedReply (im : Image) : Reply → Type 0 where
  a_result : {n : ℕ} {l : List ℕ} → PlacedReply im (result n l)
  a_stop : {n k c p : ℕ} → Placed im n c p → PlacedReply im (stopped n k c p)
  too_long : {k : ℕ} → PlacedReply im (stopped 47 k 0 0)

abbrev pub EndingsPlaced : Type 0
EndingsPlaced =
    (bytes : List ℕ) (im : Image) → load_image bytes ≡ image im → (budget : ℕ) (r : Run Value ℕ) → IsRun trees im budget (initial trees) r
    → (n k c p : ℕ) → r.ending ≡ stop n k c p → Placed im n c p

abbrev pub RepliesPlaced : Type 0
RepliesPlaced =
    (bytes : List ℕ) (im : Image) → load_image bytes ≡ image im → (budget room : ℕ) (a : Reply) → Replies trees im budget room a → PlacedReply im a
