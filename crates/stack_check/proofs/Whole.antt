-- From the chunks to the image. Assumes nothing.
use mathlib.Core.Path.{◌≡◌, ◌∙◌}
use mathlib.Core.List.{List}
use Prim.Native.Nat.{ℕ, ◌≤◌, ◌<◌}
use native.Mathlib.Omega.{arith}
use lib.ListN.{length}
use Rattle.definition.specs.Image.{Chunk, chunk_at}
use Rattle.chunk.specs.Fault.{kinds_of}
use Rattle.definition.specs.StackCheck.{Passes}
use Rattle.definition.specs.CheckAnswer.{Answers, Wrong}
use Rattle.definition.proofs.OneAnswer.{settled}
use Rattle.stack_check.specs.Node.{chunk_of}
use Rattle.stack_check.specs.Answer.{reason_number, ChunkAnswer, checked_of, ChunkIs, RowLent, RowDecided, Lent, Decided, PassBelow}
use Rattle.image.specs.declared.loaded.Loaded.{Loaded}
use Rattle.stack_check.specs.declared.ChunkFault.{ChunkFault}
use Rattle.std.proofs.Common.{Ok, Err}
use Rattle.stack_check.proofs.Nodes.{kinds_back}
use Rattle.stack_check.proofs.Alike.{answer_alike}

-- the answer for the search's chunk, for each chunk with its code and constants of its kinds
pub answer_for : (k : Chunk) (code own : List ℕ) (r : ChunkAnswer) → code ≡ k.code → own ≡ kinds_of k.constants → ChunkIs (chunk_of code own) r → ChunkIs k r
answer_for k code own r e f x = answer_alike {c = chunk_of code own} {e = k} (record { code = e; kinds = kinds_back own ∙ f }) r x

module _ (m : Loaded) where
  pub row_lent : {room room' : ℕ} (c : ℕ) → Lent m room → room' ≡ room → c < m.counts.chunks → RowLent m c room'
  row_lent c L e l =
      let im = L.0 in
      let h : c < length im.chunks = omega (arith, L.1.count) in
      (chunk_at im c, L.1.held c h, rw e (L.2 c h))

  pub fault_decided :
      (c : ℕ) (r : ChunkAnswer) (f : ChunkFault) → c < m.counts.chunks → r ≡ Err f → RowDecided m c r → PassBelow m c
      → Decided m (Err (record { reason = f.reason; chunk = c; at = f.at }))
  fault_decided c r f l e R P im H =
      settled im (checked_of (Err (record { reason = f.reason; chunk = c; at = f.at }))) (Answers.refuses (reason_number f.reason) c f.at l' (P im H) (here (R (chunk_at im c) (H.held c l'))))
    where
      l' : c < length im.chunks
      l' = omega (arith, H.count)

      here : ChunkIs (chunk_at im c) r → Wrong (chunk_at im c) (reason_number f.reason) f.at
      here x = rw e at x

  pub pass_decided : (c : ℕ) → m.counts.chunks ≤ c → PassBelow m c → Decided m (Ok tt)
  unfolding Passes
  pass_decided c l P im H = settled im (checked_of (Ok tt)) (Answers.passes (λ b m. P im H b (omega (arith, H.count))))
