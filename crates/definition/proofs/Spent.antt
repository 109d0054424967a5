-- The count stays within the budget, and 46 is met only where it is the budget.
use mathlib.Core.Path.{◌≡◌, refl, sym, subst, subst⁻¹}
use mathlib.Core.List.{List, [], ◌∷◌}
use mathlib.Core.Option.{Option, none, some}
use mathlib.Core.Bool.{Bool, true, false, not}
use Prim.Native.Nat.{ℕ, zero, suc, ◌≤◌, ◌<◌}
use native.Mathlib.Omega.{arith}
use lib.Dec.{T, ltb, ltb→lt, nltb→le}
use lib.ListN.{length}
use Rattle.definition.specs.Image.{Image, chunk_at}
use Rattle.definition.specs.Decode.{Instr}
use Rattle.definition.specs.Shape.{Alg}
use Rattle.definition.specs.State.{Frame, State, Ending, value, stop, Outcome, next, done, Act, go_on, fault, enter, leave}
use Rattle.definition.specs.Step.{bounded, finish_call, carry, begin, budgeted, within, step_in, step}
use Rattle.definition.specs.Run.{Run, IsRun, at}
use Rattle.definition.specs.Claims.{WithinBudget, Counts}
use Rattle.definition.proofs.Frames.{Form, form}

module _ {Val Cells : Type 0} (A : Alg Val Cells) (im : Image) (budget : ℕ) where
  abbrev Counted : Outcome Val Cells → Type 0
  Counted (next t) = t.count ≤ budget
  Counted (done (value n v cs)) = n ≤ budget
  Counted (done (stop n k c p)) = (k ≤ budget) × (n ≡ 46 → k ≡ budget)

  module _ (s : State Val Cells) (f : Frame) (fs : List Frame) where
    bounded_counted : (b : Bool) (t : State Val Cells) (p : ℕ) → t.count ≤ budget → Counted (bounded A b t f p)
    unfolding bounded
    bounded_counted true t p h = h
    bounded_counted false t p h = (h, λ e. absurd (omega arith))

    finish_counted : (b : Bool) (t : State Val Cells) (gs : List Frame) (v : Val) (p : ℕ) → t.count ≤ budget → Counted (finish_call A b t f gs v p)
    unfolding finish_call
    finish_counted false t gs v p h = (h, λ e. absurd (omega arith))
    finish_counted true t [] v p h = h
    finish_counted true t (g ∷ gs) v p h = h

    carry_counted : (i : Instr) → s.count < budget → (x : Act Val Cells) → Form A i.op i.a f.position s.cells s.operands x → Counted (carry A s f fs x)
    unfolding carry
    carry_counted i h (go_on vs r q ls st gs cs) w = bounded_counted _ _ f.position h
    carry_counted i h (fault n) w = (h, λ e. absurd (w.2 e))
    carry_counted i h (enter c own r q) w = bounded_counted _ _ f.position h
    carry_counted i h (leave v r) w = finish_counted _ _ fs v f.position h

    begin_counted : s.count < budget → (x : Option Instr) → Counted (begin A im s f fs x)
    unfolding begin
    begin_counted h none = (h, λ e. absurd (omega arith))
    begin_counted h (some i) = carry_counted i h _ (form A im s f i i.op)

    budgeted_counted : s.count ≤ budget → (b : Bool) → ltb s.count budget ≡ b → Counted (budgeted A b im s f fs)
    unfolding budgeted
    budgeted_counted h true e = begin_counted (ltb→lt s.count budget (subst T (sym e) tt)) _
    budgeted_counted h false e =
        let k : budget ≤ s.count = nltb→le s.count budget (subst (λ (x : Bool). T (not x)) (sym e) tt) in
        (h, λ z. omega arith)

    within_counted : s.count ≤ budget → (b : Bool) → Counted (within A b im budget s f fs)
    unfolding within
    within_counted h true = budgeted_counted h _ refl
    within_counted h false = finish_counted _ _ fs A.null (length (chunk_at im f.chunk).code) h

  in_counted : (s : State Val Cells) (fs : List Frame) → s.count ≤ budget → Counted (step_in A im budget s fs)
  unfolding step_in
  in_counted s [] h = h
  in_counted s (f ∷ fs) h = within_counted s f fs h _

  step_counted : (s : State Val Cells) → s.count ≤ budget → Counted (step A im budget s)
  unfolding step
  step_counted s h = in_counted s s.frames h

  module _ (start : State Val Cells) (first : start.count ≤ budget) (r : Run Val Cells) (R : IsRun A im budget start r) where
    always : (k : ℕ) → k ≤ R.last → (at A r.states k).count ≤ budget
    always zero h = subst⁻¹ (λ (s : State Val Cells). s.count ≤ budget) R.first first
    always (suc k) h = subst Counted (R.follows k h) (step_counted (at A r.states k) (always k (omega arith)))

    ended : Counted (done r.ending)
    ended = subst Counted R.ends (step_counted (at A r.states R.last) (always R.last (omega arith)))

    counted : WithinBudget A budget r
    counted = record {
      states = λ k h. always k (omega (arith, R.size));
      values = λ n v cs e. subst (λ (x : Ending Val Cells). Counted (done x)) e ended;
      stops = λ n k c p e. (subst (λ (x : Ending Val Cells). Counted (done x)) e ended).0;
      spent = λ k c p e. (subst (λ (x : Ending Val Cells). Counted (done x)) e ended).1 refl;
    }

pub counts : {Val Cells : Type 0} (A : Alg Val Cells) → Counts A
counts A im budget start h r R = counted A im budget start h r R
