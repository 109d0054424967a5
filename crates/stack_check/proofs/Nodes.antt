-- A node is the definition's instruction. Assumes nothing.
use mathlib.Core.Path.{◌≡◌, refl, sym, ◌∙◌, ap}
use mathlib.Core.Bool.{Bool}
use mathlib.Core.List.{List, [], ◌∷◌, map}
use mathlib.Core.Logic.{⊎_elim}
use mathlib.Core.Option.{Option, none, some}
use Prim.Native.Nat.{ℕ, zero, suc, ◌+◌, ◌*◌, ◌-◌, ◌^◌, ◌≤◌, ◌<◌}
use native.Mathlib.Omega.{arith}
use borrow.Author.Tests.{le-leb}
use lib.IntN.{ℤ, pos, ◌-ℤ◌}
use Rattle.definition.specs.Image.{Chunk}
use Rattle.definition.specs.Table as table
use Rattle.definition.specs.Table.{added}
use Rattle.definition.specs.Decode as definition
use Rattle.definition.proofs.ChangeOfHeight.{rise, fall, added_by, added_sum, lessened, need_is, falls_covered}
use Rattle.chunk.specs.Table.{flow_of}
use Rattle.chunk.specs.Decode.{held}
use Rattle.chunk.specs.Fault.{kinds_of}
use Rattle.chunk.specs.declared.Flow.{Flow}
use Rattle.chunk.specs.declared.Flow.TheVariants.{Straight, Opens, Closes, Forward, Backward, Forks, Ends, MayEnd}
use Rattle.chunk.specs.declared.Instr.{Instr}
use Rattle.chunk.proofs.Rows as rows
use Rattle.stack_check.specs.Node.{flow_effect, first_of, second_of, node_of, node_at, NodeIs, Drawn, of_kind}
use Rattle.stack_check.specs.Flat.{Changeable}
use Rattle.stack_check.specs.declared.FlowEffect.{FlowEffect}
use Rattle.stack_check.specs.declared.Node.{Node}

opens_by : (f : Flow) → (flow_effect f).opens ≤ 1
opens_by Straight = omega arith
opens_by Opens = omega arith
opens_by Closes = omega arith
opens_by Forward = omega arith
opens_by Backward = omega arith
opens_by Forks = omega arith
opens_by Ends = omega arith
opens_by MayEnd = omega arith

pub opens_small : (c : Chunk) (p : ℕ) → (node_at c p).opens ≤ 1
unfolding node_at
opens_small c p = from (definition.decode c.code p)
  where
    from : (x : Option definition.Instr) → (node_of p x).opens ≤ 1
    from none = omega arith
    from (some i) = opens_by (flow_of (table.row i.op).flow)

-- a change takes no more than is needed, and adds one at most
falls_needed : (c : Chunk) (p : ℕ) → fall (node_at c p).change ≤ (node_at c p).need
unfolding node_at
falls_needed c p = from (definition.decode c.code p)
  where
    from : (x : Option definition.Instr) → fall (node_of p x).change ≤ (node_of p x).need
    from none = omega arith
    from (some i) = falls_covered i.op i.a

rises_one : (c : Chunk) (p : ℕ) → rise (node_at c p).change ≤ 1
unfolding node_at
rises_one c p = from (definition.decode c.code p)
  where
    from : (x : Option definition.Instr) → rise (node_of p x).change ≤ 1
    from none = omega arith
    from (some i) = omega (arith, rows.rise_small i.op, (lessened (table.row i.op).change (table.times (table.row i.op).per i.a)).rises)

module _ (c : Chunk) (p h : ℕ) where
  pub one_more : added h (node_at c p).change ≤ h + 1
  one_more = omega (arith, added_by h (node_at c p).change, rises_one c p)

  pub changeable : (node_at c p).need ≤ h → h + 1 < 2 ^ 63 → Changeable h (node_at c p).change
  changeable e l =
      record { whole = added_sum h (node_at c p).change (omega (arith, falls_needed c p)); before = omega arith; after = omega (arith, one_more) }

-- the operand that the code holds is the definition's where the row counts it or jumps by it
held_same : (z a : ℕ) → 3 ≤ z → held 3 z a ≡ a
held_same z a h = simp (le-leb 3 z h)

zero_times : (k x y : ℕ) → k ≡ 0 → k * x ≡ k * y
zero_times k x y e = rw e (omega arith)

counted_same : (o : table.OpCode) (a : ℕ) → (table.row o).per * held 3 (table.size o) a ≡ table.times (table.row o).per a
counted_same o a =
    ⊎_elim
    (λ e. zero_times (table.row o).per (held 3 (table.size o) a) a e)
    (λ h. ap (λ (x : ℕ). (table.row o).per * x) (held_same (table.size o) a h))
    (rows.counts_there o)
    ∙ sym (rows.counted_is o a)

first_same : (o : table.OpCode) (f : table.Flow) (n a : ℕ) → (table.row o).flow ≡ f → first_of (flow_of f) n (held 3 (table.size o) a) ≡ first_of (flow_of f) n a
first_same o table.straight n a e = refl
first_same o table.opens n a e = refl
first_same o table.closes n a e = refl
first_same o table.forward n a e = ap (λ (x : ℕ). n + x) (held_same _ a (rows.forward_there o e))
first_same o table.backward n a e = ap (λ (x : ℕ). n - x) (held_same _ a (rows.backward_there o e))
first_same o table.forks n a e = refl
first_same o table.ends n a e = refl
first_same o table.may_end n a e = refl

second_same : (o : table.OpCode) (f : table.Flow) (n a : ℕ) → (table.row o).flow ≡ f → second_of (flow_of f) n (held 3 (table.size o) a) ≡ second_of (flow_of f) n a
second_same o table.straight n a e = refl
second_same o table.opens n a e = refl
second_same o table.closes n a e = refl
second_same o table.forward n a e = ap (λ (x : ℕ). n + x) (held_same _ a (rows.forward_there o e))
second_same o table.backward n a e = ap (λ (x : ℕ). n - x) (held_same _ a (rows.backward_there o e))
second_same o table.forks n a e = ap (λ (x : ℕ). n + x) (held_same _ a (rows.forks_there o e))
second_same o table.ends n a e = refl
second_same o table.may_end n a e = refl

-- the node that the code makes, from what its calls gave; a is the first operand as the code counts with it
pub node_is :
    (i : Instr) (a : ℕ) (f : Flow) (t : FlowEffect) (x y : ℕ) (z : ℤ) → a ≡ i.a → f ≡ i.row.flow → t ≡ flow_effect f → x ≡ first_of f i.next.at i.a
    → y ≡ second_of f i.next.at i.a
    → z ≡ i.row.change -ℤ pos (i.row.per * a)
    → NodeIs i (record { need = i.row.need + i.row.per * a; change = z; exact = t.exact; drops = t.drops; opens = t.opens; ends = t.ends; first = x; second = y })
node_is i a f t x y z ea ef et ex ey ez p d e =
    let o = d.op in
    let g : f ≡ flow_of (table.row o).flow = ef ∙ ap (λ (j : Instr). j.row.flow) e in
    let x₁ : x ≡ first_of (flow_of (table.row o).flow) (p + table.size o) d.a =
    ex ∙ rw (g, e) (first_same o (table.row o).flow (p + table.size o) d.a refl) in
    let y₁ : y ≡ second_of (flow_of (table.row o).flow) (p + table.size o) d.a =
    ey ∙ rw (g, e) (second_same o (table.row o).flow (p + table.size o) d.a refl) in
    let n₁ : i.row.need + i.row.per * a ≡ table.need o d.a = ap (λ (k : ℕ). i.row.need + i.row.per * k) ea ∙ rw e (ap (λ (k : ℕ). (table.row o).need + k) (counted_same o d.a) ∙ sym (need_is o d.a)) in
    let z₁ : z ≡ table.change o d.a = ez ∙ ap (λ (k : ℕ). i.row.change -ℤ pos (i.row.per * k)) ea ∙ rw e (ap (λ (k : ℕ). (table.row o).change -ℤ pos k) (counted_same o d.a)) in
    let t₁ : t ≡ flow_effect (flow_of (table.row o).flow) = et ∙ ap flow_effect g in
    all n₁ z₁ (ap (λ (u : FlowEffect). u.exact) t₁) (ap (λ (u : FlowEffect). u.drops) t₁) (ap (λ (u : FlowEffect). u.opens) t₁) (ap (λ (u : FlowEffect). u.ends) t₁) x₁ y₁
  where
    all :
        {n d o x y n' d' o' x' y' : ℕ} {e s e' s' : Bool} {z z' : ℤ} → n ≡ n' → z ≡ z' → e ≡ e' → d ≡ d' → o ≡ o' → s ≡ s' → x ≡ x' → y ≡ y'
        → ◌≡◌ {A = Node} (record { need = n; change = z; exact = e; drops = d; opens = o; ends = s; first = x; second = y }) (record {
          need = n';
          change = z';
          exact = e';
          drops = d';
          opens = o';
          ends = s';
          first = x';
          second = y';
        })
    all a b c f g h k m = rw (a, b, c, f, g, h, k, m)

-- the numbers of an instruction are small
pub record Limits (i : Instr) (a : ℕ) : Type 0 where
  pub need : i.row.need ≤ 3
  pub rises : rise i.row.change ≤ 1
  pub falls : fall i.row.change ≤ 2
  pub counted : i.row.per * a < 65536

product_small : (k a : ℕ) → k ≤ 1 → a < 65536 → k * a < 65536
product_small zero a h l = omega arith
product_small (suc zero) a h l = omega arith
product_small (suc (suc k)) a h l = omega arith

pub limits : (i : Instr) → Drawn i → i.a < 65536 → (a : ℕ) → a ≡ i.a → Limits i a
limits i w h a q =
    let o = w.1.op in
    let e = w.2.is in
    record {
      need = rw e (rows.need_small o);
      rises = rw e (rows.rise_small o);
      falls = rw e (rows.fall_small o);
      counted = product_small i.row.per a (rw e (rows.per_small o)) (omega arith);
    }

pub kinds_back : (kinds : List ℕ) → kinds_of (map of_kind kinds) ≡ kinds
kinds_back [] = refl
kinds_back (k ∷ ks) = ap (λ (l : List ℕ). k ∷ l) (kinds_back ks)
