-- A run of a loaded image stops with a number of document 01 and at a place that exists.
use mathlib.Core.Path.{◌≡◌, refl, subst, subst⁻¹}
use mathlib.Core.Bool.{Bool, true, false}
use Prim.Native.Nat.{ℕ}
use borrow.Author.Tests.{ltb-true, leb-true}
use lib.Dec.{leb}
use lib.ListN.{length}
use Rattle.definition.specs.Image.{Image}
use Rattle.definition.specs.Value.{Value}
use Rattle.definition.specs.Trees.{trees}
use Rattle.definition.specs.Coding.{coded}
use Rattle.definition.specs.State.{Ending, value, stop}
use Rattle.definition.specs.Run.{reply}
use Rattle.definition.specs.KeptValues.{well_formed}
use Rattle.definition.specs.Endings.{Placed, instruction, end, PlacedReply, a_result, a_stop, too_long, EndingsPlaced, RepliesPlaced}
use Rattle.definition.proofs.Judged.{first, second}
use Rattle.definition.proofs.Keeps.{loads_kept}
use Rattle.definition.proofs.KeptValues.{StopKept, EndKept, end_kept}
use Rattle.definition.proofs.KeptValues as kept
use Rattle.definition.proofs.WellFormed.{closed}

placed : (im : Image) {n c p : ℕ} → StopKept (well_formed im) im n c p → Placed im n c p
placed im (kept.instruction {n = n} {c = c} e t l) = instruction (leb-true 30 n (first (leb 30 n) (leb n 46) e)) (leb-true n 46 (second (leb 30 n)
    (leb n 46) e)) (ltb-true c (length im.chunks) t) l
placed im (kept.end {c = c} t) = end (ltb-true c (length im.chunks) t)

pub endings_placed : EndingsPlaced
endings_placed bytes im e budget r R n k c p q = placed im (subst (EndKept (well_formed im) im) q (end_kept (well_formed im) im (closed im (loads_kept bytes im e)) budget r R))

value_placed : (im : Image) (room n : ℕ) (v : Value) (cs : ℕ) (b : Bool) → leb (length (coded trees cs v)) room ≡ b → PlacedReply im (reply trees room (value n v cs))
unfolding reply
value_placed im room n v cs true e = rw e a_result
value_placed im room n v cs false e = rw e too_long

reply_placed : (im : Image) (room : ℕ) (x : Ending Value ℕ) → EndKept (well_formed im) im x → PlacedReply im (reply trees room x)
unfolding reply
reply_placed im room (value n v cs) w = value_placed im room n v cs (leb (length (coded trees cs v)) room) refl
reply_placed im room (stop n k c p) w = a_stop (placed im w)

pub replies_placed : RepliesPlaced
replies_placed bytes im e budget room a x =
    subst⁻¹ (PlacedReply im) x.says (reply_placed im room x.states.ending (end_kept (well_formed im) im (closed im (loads_kept bytes im e)) budget x.states x.is_run))
