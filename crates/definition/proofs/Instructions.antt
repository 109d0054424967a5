-- What each instruction does is fine: it puts on as many operands as the table says, goes where the check says, leaves what lies
-- below its frame alone, and stops with none of the numbers that the check rules out. For any values. It is what holds of every image, with
-- what the check has seen: the act's form (Frames), its locals and scope starts (OwnLocals), its faults (FaultsOfSteps).
use mathlib.Core.Path.{◌≡◌, refl, sym, ap, subst}
use mathlib.Core.Logic.{◌⊎◌, inl, inr}
use mathlib.Core.List.{List, [], ◌∷◌, ◌++◌}
use Prim.Native.Nat.{ℕ, ◌≤◌}
use native.Mathlib.Omega.{arith}
use lib.ListN.{length, get_or, take, drop}
use Rattle.definition.specs.Table.{OpCode, Return, Propagate, PopScope, row, need, leaves, depth_after}
use Rattle.definition.specs.Image.{Image, chunk_at}
use Rattle.definition.specs.Decode.{Instr, fault_of}
use Rattle.definition.specs.StackCheck.{After, Exact}
use Rattle.definition.specs.Value.{err}
use Rattle.definition.specs.Shape.{Alg}
use Rattle.definition.specs.State.{Frame, State, Act, go_on, fault, enter, leave}
use Rattle.definition.specs.Step.{perform}
use Rattle.definition.specs.Callers.{Allowed}
use Rattle.definition.proofs.Frames.{Form, form}
use Rattle.definition.proofs.FaultsOfSteps.{Agrees, agrees}
use Rattle.definition.proofs.OwnLocals.{AllGe, Standing, Owns, owns}

-- an instruction o with operand a at offset p, in a frame with local base lb, scope starts st₀ below and scope depth d, goes on from
-- the operands os and locals l: values put on, operands under them, next offset, locals, scope starts
pub record Goes {Val : Type 0} (o : OpCode) (a p lb : ℕ) (st₀ : List ℕ) (d : ℕ) (os l : List Val) (vs r : List Val) (q : ℕ) (ls : List Val) (st : List ℕ) : Type 0 where
  pub pushed : length vs ≡ leaves o
  pub taken : r ≡ drop (need o a) os
  pub goes : After o a p q
  pub locals : take lb ls ≡ take lb l
  pub scopes : List ℕ
  pub starts : st ≡ scopes ++ st₀
  pub deep : length scopes ≡ depth_after o d
  pub above : AllGe lb scopes

-- h is the height
abbrev pub Fine : {Val Cells : Type 0} → OpCode → ℕ → ℕ → ℕ → List ℕ → ℕ → ℕ → State Val Cells → Act Val Cells → Type 0
Fine o a p lb st₀ d h s (go_on vs r q ls st gs n) = Goes o a p lb st₀ d s.operands s.locals vs r q ls st
Fine o a p lb st₀ d h s (fault n) = Allowed n
Fine {Val} o a p lb st₀ d h s (enter c own r q) = (v : Val) → Goes o a p lb st₀ d s.operands s.locals (v ∷ []) r q s.locals s.scope_starts
Fine o a p lb st₀ d h s (leave v r) = (h ≡ 1) × (r ≡ drop 1 s.operands)

module _ {Val Cells : Type 0} (A : Alg Val Cells) (s : State Val Cells) (f : Frame) (lb : ℕ) (st₀ z : List ℕ) (w : Standing s f lb st₀ z) (h : ℕ) where
  -- the act of an instruction o with its operands, at a height and depth that it may stand at, where the check's fault m is none
  together : (o : OpCode) (a m : ℕ) (x : Act Val Cells) → Form A o a f.position s.cells s.operands x → Owns o lb st₀ (length z) s x → Agrees A s a o m x
      → need o a ≤ length s.operands → Exact o h (length z) → m ≡ 0 → Fine o a f.position lb st₀ (length z) h s x
  together o a m (go_on vs r q ls st gs cs) t u v n e c =
      record { pushed = t.0; taken = t.1; goes = t.3; locals = u.locals; scopes = u.scopes; starts = u.starts; deep = u.deep; above = u.above }
  together o a m (fault k) t u v n e c = record {
    not_30 = λ y. absurd (omega (arith, v.0 y));
    not_31 = λ y. absurd (omega (arith, t.0 y));
    not_32 = λ y. absurd (omega (arith, v.1 y));
    not_33 = λ y. absurd (omega (arith, v.2 y));
    not_36 = λ y. absurd (open_scope (u y));
  }
    where
      open_scope : (o ≡ PopScope) × (length z ≡ 0) → ⊥
      open_scope y = let d : 1 ≤ length z = subst (λ (p : OpCode). Exact p h (length z)) y.0 e in omega (arith, y.1)
  together o a m (enter k own r q) t u v n e c =
      λ y. record {
        pushed = sym (ap leaves t.0);
        taken = t.1;
        goes = t.3;
        locals = refl;
        scopes = z;
        starts = w.starts;
        deep = sym (ap (λ (p : OpCode). depth_after p (length z)) t.0);
        above = w.above;
      }
  together o a m (leave y r) t u v n e c = (one t.2, t.0)
    where
      one : (o ≡ Return) ⊎ ((o ≡ Propagate) × ((A.view s.cells (get_or s.operands 0 A.null)).head ≡ err)) → h ≡ 1
      one (inl p) = subst (λ (p : OpCode). Exact p h (length z)) p e
      one (inr p) = subst (λ (p : OpCode). Exact p h (length z)) p.0 e

  -- every instruction without a fault, with its operands, at a height and depth that it may stand at
  pub fine : (im : Image) (i : Instr) (o : OpCode) → need o i.a ≤ length s.operands → Exact o h (length z)
      → fault_of (row o).static (chunk_at im f.chunk).constants f.position i ≡ 0
      → Fine o i.a f.position lb st₀ (length z) h s (perform A im s f i o)
  fine im i o = together o i.a _ (perform A im s f i o) (form A im s f i o) (owns A im s f lb st₀ z w i o) (agrees A s im f i o)
