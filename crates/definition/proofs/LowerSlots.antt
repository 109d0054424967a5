-- No step of a run changes a local slot below the base of the frame that it runs: for every image, passed or not, and any values.
use mathlib.Core.Path.{◌≡◌, refl, sym, ◌∙◌, ap, subst, subst⁻¹}
use mathlib.Core.List.{List, [], ◌∷◌, ◌++◌, head-eq_of_cons-eq}
use mathlib.Core.Option.{Option, none, some}
use mathlib.Core.Bool.{Bool, true, false}
use Prim.Native.Nat.{ℕ, zero, suc, ◌+◌, ◌-◌, ◌≤◌, ◌<◌}
use native.Mathlib.Omega.{arith}
use lib.Dec.{ltb}
use borrow.Author.Tests.{lt-ltb}
use lib.ListN.{length, get_or, take, drop, length-append, length-take}
use lib.Seq.{drop-append-add, get_or-append_seam, take-append-le, take-take, length-take-le}
use Rattle.definition.specs.Image.{Image}
use Rattle.definition.specs.Decode.{Instr}
use Rattle.definition.specs.Shape.{Alg}
use Rattle.definition.specs.State.{Frame, moved, State, Outcome, next, done, Act, go_on, fault, enter, leave}
use Rattle.definition.specs.Step.{bounded, kept_starts, kept_locals, left, finish_call, went, entered, carry, begin, budgeted, within, step_in, step}
use Rattle.definition.specs.Run.{Run, IsRun, at}
use Rattle.definition.specs.Callers.{depth, Fresh}
use Rattle.definition.specs.Claims.{LowerKept, LowerSlots}
use Rattle.definition.proofs.OwnLocals.{AllGe, Standing, Owns, owns}

-- what is left of z ++ (l ∷ ws) where all but ws goes
cut_starts : (z : List ℕ) (l : ℕ) (ws : List ℕ) → drop (length (z ++ l ∷ ws) - length ws) (z ++ l ∷ ws) ≡ ws
cut_starts z l ws =
    let e : length (z ++ l ∷ ws) - length ws ≡ length z + 1 = simp length-append (omega arith) in
    ap (λ (n : ℕ). drop n (z ++ l ∷ ws)) e ∙ drop-append-add z (l ∷ ws) 1

cut_locals : (z : List ℕ) (l : ℕ) (ws : List ℕ) → get_or (z ++ l ∷ ws) (length (z ++ l ∷ ws) - suc (length ws)) 0 ≡ l
cut_locals z l ws =
    let e : length (z ++ l ∷ ws) - suc (length ws) ≡ length z = simp length-append (omega arith) in
    ap (λ (n : ℕ). get_or (z ++ l ∷ ws) n 0) e ∙ get_or-append_seam z l ws 0

-- a frame that goes, and has the scope start l from the beginning, over the starts ws
module _ {Val Cells : Type 0} (A : Alg Val Cells) (s : State Val Cells) (f : Frame) (z : List ℕ) (l : ℕ) (ws : List ℕ) (e : s.scope_starts ≡ z ++ l ∷
    ws) (k : f.scope_base ≡ length ws) where
  has_base : ltb f.scope_base (length s.scope_starts) ≡ true
  has_base = lt-ltb f.scope_base (length s.scope_starts) (omega (arith, simp length-append at (ap length e)))

  pub kept_starts_lem : kept_starts (ltb f.scope_base (length s.scope_starts)) s.scope_starts f.scope_base ≡ ws
  unfolding kept_starts
  kept_starts_lem = rw (has_base, e, k) (cut_starts z l ws)

  pub kept_locals_lem : kept_locals (ltb f.scope_base (length s.scope_starts)) s.scope_starts f.scope_base s.locals ≡ take l s.locals
  unfolding kept_locals
  kept_locals_lem = rw (has_base, e, k) (ap (λ (n : ℕ). take n s.locals) (cut_locals z l ws))

-- as many are left as were to be kept
still_there : {B : Type 0} (n : ℕ) (l m : List B) → n ≤ length l → take n m ≡ take n l → n ≤ length m
still_there n l m h e = omega (arith, h, simp length-take at (ap length e))

-- the frame f over n locals and the scope starts st, of which it may not pop st₀
record Layer (f : Frame) (n : ℕ) (st st₀ : List ℕ) : Type 0 where
  inside : f.local_base ≤ n
  scopes : List ℕ
  starts : st ≡ scopes ++ st₀
  above : AllGe f.local_base scopes
  bottom : f.scope_base + f.base_scopes ≡ length st₀

-- the frames below f, which has one scope start from the beginning, its local base
abbrev Under : List Frame → Frame → List ℕ → Type 0
Under [] f st₀ = Unit {0}
Under (g ∷ gs) f st₀ =
    (ws : List ℕ) × (st₁ : List ℕ) × (st₀ ≡ f.local_base ∷ ws) × (f.scope_base ≡ length ws) × Layer g f.local_base ws st₁ × Under gs g st₁

under_moved : (fs : List Frame) (f : Frame) (q : ℕ) (st₀ : List ℕ) → Under fs f st₀ → Under fs (moved f q) st₀
under_moved [] f q st₀ u = u
under_moved (g ∷ gs) f q st₀ u = u

module _ {Val Cells : Type 0} (A : Alg Val Cells) where
  -- every frame over those below it
  record Laid (s : State Val Cells) : Type 0 where
    top : Frame
    rest : List Frame
    frames : s.frames ≡ top ∷ rest
    floor : List ℕ
    layer : Layer top (length s.locals) s.scope_starts floor
    under : Under rest top floor

  fresh_laid : (s : State Val Cells) → Fresh s → Laid s
  fresh_laid s F = record {
    top = F.frame;
    rest = [];
    frames = F.frames;
    floor = s.scope_starts;
    layer = record { inside = F.locals; scopes = []; starts = refl; above = tt; bottom = F.scope_starts };
    under = tt;
  }

  -- what a step does from s, with local base n
  abbrev Result : ℕ → State Val Cells → Outcome Val Cells → Type 0
  Result n s (next t) = Laid t × LowerKept A n s t
  Result n s (done e) = Unit {0}

  module _ (s : State Val Cells) (f : Frame) (fs : List Frame) (st₀ : List ℕ) (L : Layer f (length s.locals) s.scope_starts st₀) (U : Under fs f
      st₀) (F : s.frames ≡ f ∷ fs) where
    abbrev lb : ℕ
    lb = f.local_base

    bounded_result : (b : Bool) (t : State Val Cells) (p : ℕ) → Laid t × LowerKept A lb s t → Result lb s (bounded A b t f p)
    unfolding bounded
    bounded_result true t p h = h
    bounded_result false t p h = tt

    -- the frame goes
    leaves : (b : Bool) (gs : List Frame) (v : Val) (r : List Val) (n p : ℕ) → fs ≡ gs → Under gs f st₀ → Result lb s (finish_call A b (left A s f gs v r n) f gs v p)
    unfolding finish_call
    leaves false gs v r n p d u = tt
    leaves true [] v r n p d u = tt
    leaves true (g ∷ gs) v r n p d (ws, st₁, e, k, l, u) = (
      record {
        top = g;
        rest = gs;
        frames = refl;
        floor = st₁;
        layer = rw (es, el, length-take-le lb s.locals L.inside) l;
        under = u;
      },
      record { before = L.inside; after = still_there lb s.locals _ L.inside cut; slots = cut; above = λ x. absurd (shorter x) },
    )
      where
        shorter : suc (length gs) ≡ suc (depth s) → ⊥
        shorter x = omega (arith, ap length F, ap length d)

        starts : s.scope_starts ≡ L.scopes ++ lb ∷ ws
        starts = L.starts ∙ ap (λ (y : List ℕ). L.scopes ++ y) e

        es : (left A s f (g ∷ gs) v r n).scope_starts ≡ ws
        es = kept_starts_lem A s f L.scopes lb ws starts k

        el : (left A s f (g ∷ gs) v r n).locals ≡ take lb s.locals
        el = kept_locals_lem A s f L.scopes lb ws starts k

        cut : take lb (left A s f (g ∷ gs) v r n).locals ≡ take lb s.locals
        cut = ap (take lb) el ∙ take-take lb lb s.locals (omega arith)

    standing : Standing s f lb st₀ L.scopes
    standing = record { base = refl; inside = L.inside; starts = L.starts; above = L.above; bottom = L.bottom }

    carries : (i : Instr) (x : Act Val Cells) → Owns i.op lb st₀ (length L.scopes) s x → Result lb s (carry A s f fs x)
    unfolding carry
    carries i (go_on vs r q ls st gs cs) h =
        bounded_result _ (went A s f fs r vs q ls st gs cs) _ (
          record {
            top = moved f q;
            rest = fs;
            frames = refl;
            floor = st₀;
            layer = record { inside = there; scopes = h.scopes; starts = h.starts; above = h.above; bottom = L.bottom };
            under = under_moved fs f q st₀ U;
          },
          record { before = L.inside; after = there; slots = h.locals; above = λ x. absurd (as_many x) },
        )
      where
        as_many : suc (length fs) ≡ suc (depth s) → ⊥
        as_many x = omega (arith, ap length F)

        there : lb ≤ length ls
        there = still_there lb s.locals ls L.inside h.locals
    carries i (fault n) h = tt
    carries i (enter c own r q) h =
        bounded_result _ (entered A s f fs r c own q) _ (
          record {
            top = record { chunk = c; position = 0; scope_base = length s.scope_starts; local_base = length s.locals; base_scopes = 1 };
            rest = moved f q ∷ fs;
            frames = refl;
            floor = length s.locals ∷ s.scope_starts;
            layer = record { inside = simp length-append (omega arith); scopes = []; starts = refl; above = tt; bottom = omega arith };
            under = (
              s.scope_starts,
              st₀,
              refl,
              refl,
              record { inside = L.inside; scopes = L.scopes; starts = L.starts; above = L.above; bottom = L.bottom },
              under_moved fs f q st₀ U,
            );
          },
          record {
            before = L.inside;
            after = simp length-append (omega (arith, L.inside));
            slots = take-append-le lb s.locals own L.inside;
            above = λ x g gs y. subst (λ (z : Frame). z.local_base ≡ length s.locals) (head-eq_of_cons-eq y) refl;
          },
        )
    carries i (leave v r) h = leaves _ fs v r _ _ refl U

    module _ (im : Image) where
      begins : (x : Option Instr) → Result lb s (begin A im s f fs x)
      unfolding begin
      begins none = tt
      begins (some i) = carries i _ (owns A im s f lb st₀ L.scopes standing i i.op)

      paid : (b : Bool) → Result lb s (budgeted A b im s f fs)
      unfolding budgeted
      paid true = begins _
      paid false = tt

      inside : (budget : ℕ) (b : Bool) → Result lb s (within A b im budget s f fs)
      unfolding within
      inside budget true = paid _
      inside budget false = leaves _ fs A.null _ _ _ refl U

  module _ (im : Image) (budget : ℕ) where
    steps : (s : State Val Cells) (l : Laid s) → Result l.top.local_base s (step A im budget s)
    unfolding step step_in
    steps s l =
        subst⁻¹ (λ (fs : List Frame). Result l.top.local_base s (step_in A im budget s fs)) l.frames
        (inside s l.top l.rest l.floor l.layer l.under l.frames im budget _)

    module _ (start : State Val Cells) (F : Fresh start) (r : Run Val Cells) (R : IsRun A im budget start r) where
      laid : (k : ℕ) → k ≤ R.last → Laid (at A r.states k)
      laid zero h = subst⁻¹ Laid R.first (fresh_laid start F)
      laid (suc k) h = let l = laid k (omega arith) in (subst (Result l.top.local_base _) (R.follows k h) (steps _ l)).0

      kept : (k : ℕ) → suc k < length r.states → (f : Frame) (fs : List Frame) → (at A r.states k).frames ≡ f ∷ fs
          → LowerKept A f.local_base (at A r.states k) (at A r.states (suc k))
      kept k h f fs e =
          let l = laid k (omega (arith, R.size)) in
          subst (λ (g : Frame). LowerKept A g.local_base (at A r.states k) (at A r.states (suc k))) (head-eq_of_cons-eq (sym l.frames ∙ e))
          (subst (Result l.top.local_base _) (R.follows k (omega (arith, R.size))) (steps _ l)).1

pub lower_slots : {Val Cells : Type 0} (A : Alg Val Cells) → LowerSlots A
lower_slots A im budget start F r R = kept A im budget start F r R
