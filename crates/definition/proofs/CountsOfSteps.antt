-- A step adds 1 to the count where an instruction begins, and nothing at a code's end.
use mathlib.Core.Path.{◌≡◌, refl, sym, ◌∙◌, ap, subst}
use mathlib.Core.Logic.{◌≢◌}
use mathlib.Core.List.{List, [], ◌∷◌}
use mathlib.Core.Option.{Option, none, some}
use mathlib.Core.Bool.{Bool, true, false}
use Prim.Native.Nat.{ℕ, suc, ◌≤◌, ◌<◌}
use native.Mathlib.Omega.{arith}
use lib.Dec.{ltb}
use borrow.Author.Tests.{lt-ltb, le-ltb}
use lib.ListN.{length}
use Rattle.definition.specs.Image.{Image, chunk_at}
use Rattle.definition.specs.Decode.{Instr}
use Rattle.definition.specs.Shape.{Alg}
use Rattle.definition.specs.State.{Frame, State, value, stop, Outcome, next, done, Act, go_on, fault, enter, leave}
use Rattle.definition.specs.Step.{bounded, finish_call, carry, begin, budgeted, within, step_in, step}
use Rattle.definition.specs.Claims.{count_of, CountsOfSteps}
use Rattle.definition.proofs.Frames.{Form, form}

module _ {Val Cells : Type 0} (A : Alg Val Cells) (im : Image) (budget : ℕ) (s : State Val Cells) (f : Frame) (fs : List Frame) where
  -- an instruction began
  abbrev Begun : Outcome Val Cells → Type 0
  Begun (next t) = t.count ≡ suc s.count
  Begun (done (value n v cs)) = n ≡ suc s.count
  Begun (done (stop n k c p)) = (k ≡ suc s.count) × (n ≢ 46)

  bounded_begun : (b : Bool) (t : State Val Cells) (p : ℕ) → t.count ≡ suc s.count → Begun (bounded A b t f p)
  unfolding bounded
  bounded_begun true t p e = e
  bounded_begun false t p e = (e, omega arith)

  finish_begun : (b : Bool) (t : State Val Cells) (gs : List Frame) (v : Val) (p : ℕ) → t.count ≡ suc s.count → Begun (finish_call A b t f gs v p)
  unfolding finish_call
  finish_begun false t gs v p e = (e, omega arith)
  finish_begun true t [] v p e = e
  finish_begun true t (g ∷ gs) v p e = e

  carry_begun : (i : Instr) (x : Act Val Cells) → Form A i.op i.a f.position s.cells s.operands x → Begun (carry A s f fs x)
  unfolding carry
  carry_begun i (go_on vs r q ls st gs cs) w = bounded_begun _ _ f.position refl
  carry_begun i (fault n) w = (refl, w.2)
  carry_begun i (enter c own r q) w = bounded_begun _ _ f.position refl
  carry_begun i (leave v r) w = finish_begun _ _ fs v f.position refl

  begins : (x : Option Instr) → Begun (begin A im s f fs x)
  unfolding begin
  begins none = (refl, omega arith)
  begins (some i) = carry_begun i _ (form A im s f i i.op)

  count_is : (x : Outcome Val Cells) → Begun x → count_of A x ≡ suc s.count
  count_is (next t) h = h
  count_is (done (value n v cs)) h = h
  count_is (done (stop n k c p)) h = h.0

  -- the code's end
  abbrev code : List ℕ
  code = (chunk_at im f.chunk).code

  abbrev full : Outcome Val Cells
  full = done (stop 45 s.count f.chunk (length code))

  abbrev Ended : Outcome Val Cells → Type 0
  Ended (next t) = t.count ≡ s.count
  Ended (done (value n v cs)) = n ≡ s.count
  Ended (done (stop n k c p)) = (k ≡ s.count) × (◌≡◌ {A = Outcome Val Cells} (done (stop n k c p)) full)

  finish_ended : (b : Bool) (t : State Val Cells) (gs : List Frame) (v : Val) → t.count ≡ s.count → Ended (finish_call A b t f gs v (length code))
  unfolding finish_call
  finish_ended false t gs v e = (e, ap (λ (k : ℕ). done (stop 45 k f.chunk (length code))) e)
  finish_ended true t [] v e = e
  finish_ended true t (g ∷ gs) v e = e

  ends : Ended (within A false im budget s f fs)
  unfolding within
  ends = finish_ended _ _ fs A.null (omega arith)

  count_stays : (x : Outcome Val Cells) → Ended x → count_of A x ≡ s.count
  count_stays (next t) h = h
  count_stays (done (value n v cs)) h = h
  count_stays (done (stop n k c p)) h = h.0

  module _ (e : s.frames ≡ f ∷ fs) where
    opened : (b : Bool) → ltb f.position (length code) ≡ b → step A im budget s ≡ within A b im budget s f fs
    unfolding step step_in
    opened b h = ap (λ (l : List Frame). step_in A im budget s l) e ∙ ap (λ (x : Bool). within A x im budget s f fs) h

    paid : f.position < length code → (b : Bool) → ltb s.count budget ≡ b → step A im budget s ≡ budgeted A b im s f fs
    unfolding within
    paid p b h = opened true (lt-ltb f.position (length code) p) ∙ ap (λ (x : Bool). budgeted A x im s f fs) h

    begun : f.position < length code → s.count < budget → Begun (step A im budget s)
    unfolding budgeted
    begun p q = subst Begun (sym (paid p true (lt-ltb s.count budget q))) (begins _)

    spent : f.position < length code → budget ≤ s.count → step A im budget s ≡ done (stop 46 s.count f.chunk f.position)
    unfolding budgeted
    spent p q = paid p false (le-ltb s.count budget q)

    ended : length code ≤ f.position → Ended (step A im budget s)
    ended p = subst Ended (sym (opened false (le-ltb f.position (length code) p))) ends

pub counts_of_steps : {Val Cells : Type 0} (A : Alg Val Cells) → CountsOfSteps A
counts_of_steps A im budget s f fs e = record {
  begun = λ p q. count_is A im budget s f fs (step A im budget s) (begun A im budget s f fs e p q);
  unspent = λ p q k c d z. (subst (Begun A im budget s f fs) z (begun A im budget s f fs e p q)).1 refl;
  spent = spent A im budget s f fs e;
  ended = λ p. count_stays A im budget s f fs (step A im budget s) (ended A im budget s f fs e p);
  full = λ p n k c d z. z ∙ (subst (Ended A im budget s f fs) z (ended A im budget s f fs e p)).1;
}
