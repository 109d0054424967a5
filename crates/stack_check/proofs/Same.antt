-- The rules over nodes are the definition's. Assumes nothing.
use mathlib.Core.Path.{◌≡◌, refl, sym, ◌∙◌, ap}
use mathlib.Core.Bool.{true}
use mathlib.Core.Logic.{inl, inr, ⊎_elim}
use mathlib.Core.Option.{Option, none, some}
use Prim.Native.Nat.{ℕ, ◌+◌, ◌-◌, ◌≤◌, ◌<◌}
use native.Mathlib.Omega.{arith}
use lib.IntN.{ℤ}
use lib.ListN.{length}
use Rattle.definition.specs.Image.{Chunk}
use Rattle.definition.specs.Table as table
use Rattle.definition.specs.Decode.{Instr, decode, fault}
use Rattle.definition.specs.StackCheck as rules
use Rattle.definition.specs.CheckAnswer as answer
use Rattle.definition.proofs.ChangeOfHeight.{height_is}
use Rattle.definition.proofs.Judged.{true_not_false}
use Rattle.chunk.specs.Table.{flow_of}
use Rattle.stack_check.specs.Node.{flow_effect, node_by, node_of, node_at}
use Rattle.stack_check.specs.Flat.{Goes, Reach, Comes, Fit, Obeys, Assigned, NoFault, Lowest, height_after, depth_after}

-- where control goes
goes_by : (f : table.Flow) (n : ℕ) (l : ℤ) (z a p t : ℕ) → Goes (node_by (flow_of f) n l (p + z) a) t → rules.AfterBy f z a p t
goes_by table.straight n l z a p t g = ⊎_elim (λ e. e) (λ e. e) g.1
goes_by table.opens n l z a p t g = ⊎_elim (λ e. e) (λ e. e) g.1
goes_by table.closes n l z a p t g = ⊎_elim (λ e. e) (λ e. e) g.1
goes_by table.forward n l z a p t g = ⊎_elim (λ e. e) (λ e. e) g.1
goes_by table.backward n l z a p t g = ⊎_elim (λ e. e) (λ e. e) g.1
goes_by table.forks n l z a p t g = ⊎_elim (λ e. inr e) (λ e. inl e) g.1
goes_by table.ends n l z a p t g = true_not_false g.0
goes_by table.may_end n l z a p t g = ⊎_elim (λ e. e) (λ e. e) g.1

after_by : (f : table.Flow) (n : ℕ) (l : ℤ) (z a p t : ℕ) → rules.AfterBy f z a p t → Goes (node_by (flow_of f) n l (p + z) a) t
after_by table.straight n l z a p t g = (refl, inl g)
after_by table.opens n l z a p t g = (refl, inl g)
after_by table.closes n l z a p t g = (refl, inl g)
after_by table.forward n l z a p t g = (refl, inl g)
after_by table.backward n l z a p t g = (refl, inl g)
after_by table.forks n l z a p t g = (refl, ⊎_elim (λ e. inr e) (λ e. inl e) g)
after_by table.ends n l z a p t g = absurd g
after_by table.may_end n l z a p t g = (refl, inl g)

goes_after : (p t : ℕ) (i : Instr) → Goes (node_of p (some i)) t → rules.After i.op i.a p t
goes_after p t i g = goes_by (table.row i.op).flow (table.need i.op i.a) (table.change i.op i.a) (table.size i.op) i.a p t g

after_goes : (p t : ℕ) (i : Instr) → rules.After i.op i.a p t → Goes (node_of p (some i)) t
after_goes p t i g = after_by (table.row i.op).flow (table.need i.op i.a) (table.change i.op i.a) (table.size i.op) i.a p t g

-- an instruction that may leave its frame needs one operand
needs_one : (o : table.OpCode) (a : ℕ) → (flow_effect (flow_of (table.row o).flow)).exact ≡ true → table.need o a ≡ 1
needs_one table.Const a e = true_not_false (sym e)
needs_one table.Add a e = true_not_false (sym e)
needs_one table.Sub a e = true_not_false (sym e)
needs_one table.Mul a e = true_not_false (sym e)
needs_one table.Div a e = true_not_false (sym e)
needs_one table.Negate a e = true_not_false (sym e)
needs_one table.Not a e = true_not_false (sym e)
needs_one table.Eq a e = true_not_false (sym e)
needs_one table.NotEq a e = true_not_false (sym e)
needs_one table.Less a e = true_not_false (sym e)
needs_one table.LessEq a e = true_not_false (sym e)
needs_one table.Greater a e = true_not_false (sym e)
needs_one table.GreaterEq a e = true_not_false (sym e)
needs_one table.GetLocal a e = true_not_false (sym e)
needs_one table.SetLocal a e = true_not_false (sym e)
needs_one table.GetGlobal a e = true_not_false (sym e)
needs_one table.SetGlobal a e = true_not_false (sym e)
needs_one table.DefineLocal a e = true_not_false (sym e)
needs_one table.Pop a e = true_not_false (sym e)
needs_one table.Return a e = omega arith
needs_one table.PushScope a e = true_not_false (sym e)
needs_one table.PopScope a e = true_not_false (sym e)
needs_one table.Jump a e = true_not_false (sym e)
needs_one table.JumpIfFalse a e = true_not_false (sym e)
needs_one table.Loop a e = true_not_false (sym e)
needs_one table.Call a e = true_not_false (sym e)
needs_one table.Ok a e = true_not_false (sym e)
needs_one table.Err a e = true_not_false (sym e)
needs_one table.Propagate a e = omega arith
needs_one table.Error a e = true_not_false (sym e)
needs_one table.BuildArr a e = true_not_false (sym e)
needs_one table.BuildTuple a e = true_not_false (sym e)
needs_one table.Index a e = true_not_false (sym e)
needs_one table.ArrLen a e = true_not_false (sym e)
needs_one table.ArrSet a e = true_not_false (sym e)
needs_one table.BuildClosure a e = true_not_false (sym e)
needs_one table.Cast a e = true_not_false (sym e)
needs_one table.IsKind a e = true_not_false (sym e)

depth_is : (o : table.OpCode) (d : ℕ) → d - (flow_effect (flow_of (table.row o).flow)).drops + (flow_effect (flow_of (table.row o).flow)).opens ≡ table.depth_after o d
depth_is table.Const d = omega arith
depth_is table.Add d = omega arith
depth_is table.Sub d = omega arith
depth_is table.Mul d = omega arith
depth_is table.Div d = omega arith
depth_is table.Negate d = omega arith
depth_is table.Not d = omega arith
depth_is table.Eq d = omega arith
depth_is table.NotEq d = omega arith
depth_is table.Less d = omega arith
depth_is table.LessEq d = omega arith
depth_is table.Greater d = omega arith
depth_is table.GreaterEq d = omega arith
depth_is table.GetLocal d = omega arith
depth_is table.SetLocal d = omega arith
depth_is table.GetGlobal d = omega arith
depth_is table.SetGlobal d = omega arith
depth_is table.DefineLocal d = omega arith
depth_is table.Pop d = omega arith
depth_is table.Return d = omega arith
depth_is table.PushScope d = omega arith
depth_is table.PopScope d = omega arith
depth_is table.Jump d = omega arith
depth_is table.JumpIfFalse d = omega arith
depth_is table.Loop d = omega arith
depth_is table.Call d = omega arith
depth_is table.Ok d = omega arith
depth_is table.Err d = omega arith
depth_is table.Propagate d = omega arith
depth_is table.Error d = omega arith
depth_is table.BuildArr d = omega arith
depth_is table.BuildTuple d = omega arith
depth_is table.Index d = omega arith
depth_is table.ArrLen d = omega arith
depth_is table.ArrSet d = omega arith
depth_is table.BuildClosure d = omega arith
depth_is table.Cast d = omega arith
depth_is table.IsKind d = omega arith

-- what is asked of height and depth
exact_by : (f : table.Flow) (n : ℕ) (l : ℤ) (x a h d : ℕ) → ((flow_effect (flow_of f)).exact ≡ true → n ≡ 1) → Fit (node_by (flow_of f) n l x a) h d → rules.ExactBy f h d
exact_by table.straight n l x a h d o F = tt
exact_by table.opens n l x a h d o F = tt
exact_by table.closes n l x a h d o F = F.scoped
exact_by table.forward n l x a h d o F = tt
exact_by table.backward n l x a h d o F = tt
exact_by table.forks n l x a h d o F = tt
exact_by table.ends n l x a h d o F = F.exactly refl ∙ o refl
exact_by table.may_end n l x a h d o F = F.exactly refl ∙ o refl

fit_by : (f : table.Flow) (n : ℕ) (l : ℤ) (x a h d : ℕ) → ((flow_effect (flow_of f)).exact ≡ true → n ≡ 1) → n ≤ h → rules.ExactBy f h d → Fit (node_by (flow_of f) n l x a) h d
fit_by table.straight n l x a h d o e F = record { enough = e; exactly = λ z. true_not_false (sym z); scoped = omega arith }
fit_by table.opens n l x a h d o e F = record { enough = e; exactly = λ z. true_not_false (sym z); scoped = omega arith }
fit_by table.closes n l x a h d o e F = record { enough = e; exactly = λ z. true_not_false (sym z); scoped = F }
fit_by table.forward n l x a h d o e F = record { enough = e; exactly = λ z. true_not_false (sym z); scoped = omega arith }
fit_by table.backward n l x a h d o e F = record { enough = e; exactly = λ z. true_not_false (sym z); scoped = omega arith }
fit_by table.forks n l x a h d o e F = record { enough = e; exactly = λ z. true_not_false (sym z); scoped = omega arith }
fit_by table.ends n l x a h d o e F = record { enough = e; exactly = λ z. F ∙ sym (o refl); scoped = omega arith }
fit_by table.may_end n l x a h d o e F = record { enough = e; exactly = λ z. F ∙ sym (o refl); scoped = omega arith }

-- an instruction without fault
pub record Clean (c : Chunk) (p : ℕ) : Type 0 where
  pub instr : Instr
  pub sound : rules.Sound c p instr

clean : (c : Chunk) (p : ℕ) → p < length c.code → fault c p ≡ 0 → Clean c p
unfolding fault
clean c p l f = from (decode c.code p) refl
  where
    from : (x : Option Instr) → decode c.code p ≡ x → Clean c p
    from none t = absurd (let z : ◌≡◌ {A = ℕ} 10 0 = rw t at f in omega arith)
    from (some i) t = record { instr = i; sound = record { before = l; decoded = t; clean = f } }

node_as : {c : Chunk} {p : ℕ} {i : Instr} → rules.Sound c p i → node_at c p ≡ node_of p (some i)
unfolding node_at
node_as {p = p} S = ap (node_of p) S.decoded

-- reaching
pub reach_to : {c : Chunk} {o : ℕ} → Reach c o → rules.Reach c o
reach_to Reach.start = rules.Reach.first
reach_to {c} (Reach.after {o} {t} r l f g) =
    let x = clean c o l f in
    rules.Reach.after x.instr (reach_to r) x.sound (goes_after o t x.instr (rw (node_as x.sound) at g))

pub reach_from : {c : Chunk} {o : ℕ} → rules.Reach c o → Reach c o
reach_from rules.Reach.first = Reach.start
reach_from {c} (rules.Reach.after {p} {q} i r S a) =
    Reach.after {t = q} (reach_from r) S.before S.clean (rw (node_as S) (after_goes p q i a))

-- heights
module _ {c : Chunk} {H D : ℕ → ℕ} where
  module _ (A : Assigned c H D) (p : ℕ) (i : Instr) (r : rules.Reach c p) (S : rules.Sound c p i) where
    obeys : Obeys c H D (node_of p (some i)) (H p) (D p)
    obeys = rw (node_as S) at (A.obeys p (reach_from r) S.before S.clean)

    comes : (q : ℕ) → rules.After i.op i.a p q → Comes c H D q (height_after (node_of p (some i)) (H p)) (depth_after (node_of p (some i)) (D p))
    comes q a = obeys.goes q (after_goes p q i a)

  pub heights_to : Assigned c H D → rules.Heights c H D
  heights_to A =
      record {
        first_height = A.height;
        first_depth = A.depth;
        enough = λ p i r S. (obeys A p i r S).fit.enough;
        exact = λ p i r S.
            exact_by (table.row i.op).flow (table.need i.op i.a) (table.change i.op i.a) (p + table.size i.op) i.a (H p) (D p) (needs_one i.op i.a)
            (obeys A p i r S).fit;
        height = λ p q i r S a l. (comes A p i r S q a).height l ∙ height_is i.op i.a (H p) (obeys A p i r S).fit.enough;
        depth = λ p q i r S a l. (comes A p i r S q a).depth l ∙ depth_is i.op (D p);
        ends = λ p q i r S a l. sym (height_is i.op i.a (H p) (obeys A p i r S).fit.enough) ∙ (comes A p i r S q a).empty l;
      }

  pub heights_from : rules.Heights c H D → Assigned c H D
  heights_from G =
      record {
        height = G.first_height;
        depth = G.first_depth;
        obeys = λ o r l f.
            let x = clean c o l f in
            let i = x.instr in
            let S = x.sound in
            let R = reach_to r in
            rw (node_as S)
            (record {
              fit =
                  fit_by (table.row i.op).flow (table.need i.op i.a) (table.change i.op i.a) (o + table.size i.op) i.a (H o) (D o) (needs_one i.op i.a)
                  (G.enough o i R S) (G.exact o i R S);
              goes = λ t g.
                  let a = goes_after o t i g in
                  let e = height_is i.op i.a (H o) (G.enough o i R S) in
                  record {
                    height = λ m. G.height o t i R S a m ∙ sym e;
                    depth = λ m. G.depth o t i R S a m ∙ sym (depth_is i.op (D o));
                    empty = λ m. e ∙ G.ends o t i R S a m;
                  };
            });
      }

-- the answers
module _ (c : Chunk) where
  pub no_fault_to : NoFault c → (p : ℕ) → rules.Reach c p → p < length c.code → fault c p ≡ 0
  no_fault_to f p r l = f p (reach_from r) l

  pub passes : NoFault c → (H D : ℕ → ℕ) → Assigned c H D → rules.ChunkPasses c
  passes f H D A = record { clean = no_fault_to f; h = H; d = D; heights = heights_to A }

  pub lowest_to : (n p : ℕ) → Lowest c n p → answer.Wrong c n p
  lowest_to n p L =
      answer.Wrong.faulty n p (reach_to L.reached) L.inside L.named (positive n L.faulty) (λ q l r. L.least q (reach_from r) l)
    where
      positive : (n : ℕ) → (n ≡ 0 → ⊥) → 0 < n
      positive n h = omega arith

  pub none_to : NoFault c → ((H D : ℕ → ℕ) → Assigned c H D → ⊥) → answer.Wrong c 13 0
  none_to f g = answer.Wrong.no_heights (no_fault_to f) (λ h d G. g h d (heights_from G))
