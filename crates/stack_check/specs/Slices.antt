-- The slices that the check is lent.
use Rattle.std.specs.Prelude.{◌≡◌, ℕ, length}
use Rattle.clearing.specs.Zero.{AllZero}
use Rattle.stack_check.specs.declared.ChunkCode.{ChunkCode}
use Rattle.stack_check.specs.declared.Node.{Node}
use Rattle.stack_check.specs.declared.Search.{Search}
use Rattle.stack_check.specs.declared.Work.{Work}
use Rattle.stack_check.specs.Node.{chunk_in}
use Rattle.stack_check.specs.Progress.{Progress, Visited, Spread, Handling}

-- they are the slices that they were, so that who lent them knows what they hold afterwards
pub record SameSlices (w w' : Work) : Type 0 where
  pub heights : w'.heights.ghost_name ≡ w.heights.ghost_name
  pub depths : w'.depths.ghost_name ≡ w.depths.ghost_name
  pub todo : w'.todo.ghost_name ≡ w.todo.ghost_name

-- they are as long as they were
abbrev pub AsLong : Work → Work → Type 0
AsLong w w' =
    (length w'.heights.now ≡ length w.heights.now) × (length w'.depths.now ≡ length w.depths.now) × (length w'.todo.now ≡ length w.todo.now)

abbrev pub Cleared : Work → Type 0
Cleared w = AllZero w.heights.now × AllZero w.depths.now × AllZero w.todo.now

-- what holds of them between two turns of the search of a chunk
abbrev pub Searching : ChunkCode → Work → Search → Type 0
Searching k w s = Progress (chunk_in k) w.heights.now w.depths.now w.todo.now s

-- what a visit, the visits after an instruction, and an instruction that is handled make of them
abbrev pub VisitedIn : ChunkCode → Work → Work → Search → Search → ℕ → ℕ → ℕ → Type 0
VisitedIn k w w' = Visited (chunk_in k) w.heights.now w.depths.now w.todo.now w'.heights.now w'.depths.now w'.todo.now

abbrev pub SpreadIn : ChunkCode → Work → Work → Search → Search → Node → ℕ → ℕ → Type 0
SpreadIn k w w' = Spread (chunk_in k) w.heights.now w.depths.now w.todo.now w'.heights.now w'.depths.now w'.todo.now

abbrev pub HandlingIn : ChunkCode → Work → Work → Search → Search → ℕ → Type 0
HandlingIn k w w' = Handling (chunk_in k) w.heights.now w.depths.now w.todo.now w'.heights.now w'.depths.now w'.todo.now
