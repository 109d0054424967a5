-- What each instruction does to the locals and scope starts, for every image, passed or not: those below its frame's base stay as they are,
-- and the frame's own scope starts stay at or above that base. For any values.
use mathlib.Core.Path.{◌≡◌, refl, sym, ◌∙◌, ap, subst}
use mathlib.Core.List.{List, [], ◌∷◌, ◌++◌}
use mathlib.Core.Option.{Option, none, some}
use mathlib.Core.Bool.{Bool, true, false}
use Prim.Native.Nat.{ℕ, suc, ◌+◌, ◌≤◌, ◌<◌}
use native.Mathlib.Omega.{arith}
use lib.Dec.{leb}
use borrow.Author.Tests.{leb-true, leb-false}
use lib.ListN.{length, take, drop, set, length-append}
use lib.Seq.{take-set-le, take-append-le, take-take}
use Rattle.definition.specs.Table.{
  OpCode,
  Const,
  Add,
  Sub,
  Mul,
  Div,
  Negate,
  Not,
  Eq,
  NotEq,
  Less,
  LessEq,
  Greater,
  GreaterEq,
  GetLocal,
  SetLocal,
  GetGlobal,
  SetGlobal,
  DefineLocal,
  Pop,
  Return,
  PushScope,
  PopScope,
  Jump,
  JumpIfFalse,
  Loop,
  Call,
  Ok,
  Err,
  Propagate,
  Error,
  BuildArr,
  BuildTuple,
  Index,
  ArrLen,
  ArrSet,
  BuildClosure,
  Cast,
  IsKind,
  depth_after,
}
use Rattle.definition.specs.Image.{Image}
use Rattle.definition.specs.Decode.{Instr}
use Rattle.definition.specs.Shape.{Alg, Callee, Wrapper, an_ok, an_err, no_wrapper}
use Rattle.definition.specs.Operation.{Answer, got, new, bad, OperationFault, overflow, zero_divisor, wrong_kind, unordered, outside, bad_cast, fault_number}
use Rattle.definition.specs.State.{Frame, State, Act, go_on, fault, enter, leave}
use Rattle.definition.specs.Step.{taking, or_fault, if_else, answer, grown, define, pop_scope, branch, call, propagate, capture, perform}

-- every scope start is at or above n
abbrev pub AllGe : ℕ → List ℕ → Type 0
AllGe n [] = Unit {0}
AllGe n (m ∷ ms) = (n ≤ m) × AllGe n ms

-- what the frame f knows of the state s: its local base, the starts that it may not pop, and the others of its own
pub record Standing {Val Cells : Type 0} (s : State Val Cells) (f : Frame) (lb : ℕ) (st₀ z : List ℕ) : Type 0 where
  pub base : f.local_base ≡ lb
  pub inside : lb ≤ length s.locals
  pub starts : s.scope_starts ≡ z ++ st₀
  pub above : AllGe lb z
  pub bottom : f.scope_base + f.base_scopes ≡ length st₀

-- an instruction o in a frame with local base lb, scope starts st₀ that it may not pop and scope depth d goes on, from the locals l, with the
-- locals ls and the scope starts st
pub record Own {Val : Type 0} (o : OpCode) (lb : ℕ) (st₀ : List ℕ) (d : ℕ) (l ls : List Val) (st : List ℕ) : Type 0 where
  pub locals : take lb ls ≡ take lb l
  pub scopes : List ℕ
  pub starts : st ≡ scopes ++ st₀
  pub deep : length scopes ≡ depth_after o d
  pub above : AllGe lb scopes

-- 36 is met only by a PopScope where the frame has no scope open
abbrev pub Owns : {Val Cells : Type 0} → OpCode → ℕ → List ℕ → ℕ → State Val Cells → Act Val Cells → Type 0
Owns o lb st₀ d s (go_on vs r q ls st gs cs) = Own o lb st₀ d s.locals ls st
Owns o lb st₀ d s (fault n) = n ≡ 36 → (o ≡ PopScope) × (d ≡ 0)
Owns o lb st₀ d s (enter c own r q) = Unit {0}
Owns o lb st₀ d s (leave v r) = Unit {0}

module _ {Val Cells : Type 0} (A : Alg Val Cells) (s : State Val Cells) (f : Frame) (lb : ℕ) (st₀ z : List ℕ) (w : Standing s f lb st₀ z) where
  abbrev O : OpCode → Act Val Cells → Type 0
  O o = Owns o lb st₀ (length z) s

  other : (o : OpCode) (n : ℕ) → 36 < n → O o (fault n)
  other o n h e = absurd (omega arith)

  less : (o : OpCode) (n : ℕ) → n < 36 → O o (fault n)
  less o n h e = absurd (omega arith)

  -- locals changed at or above the base, starts as they were
  above : (o : OpCode) (ls : List Val) → depth_after o (length z) ≡ length z → take lb ls ≡ take lb s.locals → Own o lb st₀ (length z) s.locals ls s.scope_starts
  above o ls k c = record { locals = c; scopes = z; starts = w.starts; deep = sym k; above = w.above }

  -- locals and starts as they were
  same : (o : OpCode) → depth_after o (length z) ≡ length z → Own o lb st₀ (length z) s.locals s.locals s.scope_starts
  same o k = above o s.locals k refl

  either : (o : OpCode) (b : Bool) (x y : Act Val Cells) → O o x → O o y → O o (if_else b x y)
  unfolding if_else
  either o true x y p q = p
  either o false x y p q = q

  takes : (o : OpCode) (n : ℕ) (k : List Val → List Val → Act Val Cells) → O o (k (take n s.operands) (drop n s.operands)) → O o (taking n s k)
  unfolding taking
  takes o n k p = either o _ _ _ p (less o 31 (omega arith))

  option : {B : Type 0} (o : OpCode) (n : ℕ) (x : Option B) (k : B → Act Val Cells) → n < 36 → ((v : B) → O o (k v)) → O o (or_fault n x k)
  unfolding or_fault
  option o n none k p q = less o n p
  option o n (some v) k p q = q v

  leaf : (o : OpCode) (e : OperationFault) → O o (fault (fault_number e))
  leaf o overflow = other o 37 (omega arith)
  leaf o zero_divisor = other o 38 (omega arith)
  leaf o wrong_kind = other o 39 (omega arith)
  leaf o unordered = other o 40 (omega arith)
  leaf o outside = other o 41 (omega arith)
  leaf o bad_cast = other o 42 (omega arith)

  answers : (o : OpCode) (r : List Val) (q : ℕ) (x : Answer Val) → depth_after o (length z) ≡ length z → O o (answer A s r q x)
  unfolding answer
  answers o r q (got v) k = same o k
  answers o r q (new x) k = same o k
  answers o r q (bad e) k = leaf o e

  sets : (i : ℕ) (v : Val) (r : List Val) (b : Bool) (q : ℕ) → O SetLocal (if_else b (go_on (v ∷ []) r q (set s.locals (f.local_base + i) v) s.scope_starts
      s.globals s.cells) (fault 34))
  sets i v r b q = either SetLocal b _ _ (above SetLocal _ refl (take-set-le lb s.locals (f.local_base + i) v (omega (arith, w.base)))) (less SetLocal 34 (omega arith))

  defines : (b : Bool) (r : List Val) (i : ℕ) (v : Val) (q : ℕ) → O DefineLocal (define A b s r f i v q)
  unfolding define grown
  defines true r i v q = same DefineLocal refl
  defines false r i v q =
      above DefineLocal _ refl
      (take-set-le lb (grown A s.locals (suc (f.local_base + i))) (f.local_base + i) v (omega (arith, w.base))
      ∙ take-append-le lb s.locals _ w.inside)

  opens : Own PushScope lb st₀ (length z) s.locals s.locals (length s.locals ∷ s.scope_starts)
  opens = record {
    locals = refl;
    scopes = length s.locals ∷ z;
    starts = ap (λ (t : List ℕ). length s.locals ∷ t) w.starts;
    deep = refl;
    above = (w.inside, w.above);
  }

  -- the test that a PopScope makes: b says that no scope of the frame's own is open
  pops : (b : Bool) (q : ℕ) → (b ≡ true → length z ≡ 0) → (b ≡ false → 0 < length z) → (y : List ℕ) → z ≡ y → O PopScope (pop_scope A b s (y ++ st₀) q)
  unfolding pop_scope
  pops true q h k y e = λ n. (refl, h refl)
  pops false q h k [] e = absurd (omega (arith, k refl, ap length e))
  pops false q h k (n ∷ y) e =
      record { locals = take-take lb n s.locals own.0; scopes = y; starts = refl; deep = omega (arith, ap length e); above = own.1 }
    where
      own : AllGe lb (n ∷ y)
      own = subst (AllGe lb) e w.above

  branches : (x : Option Bool) (r : List Val) (p q : ℕ) → O JumpIfFalse (branch A x s r p q)
  unfolding branch
  branches none r p q = other JumpIfFalse 39 (omega arith)
  branches (some false) r p q = same JumpIfFalse refl
  branches (some true) r p q = same JumpIfFalse refl

  calls : (x : Option Callee) (cs : List Val) (im : Image) (vs : List Val) (n : ℕ) (r : List Val) (q : ℕ) → O Call (call A x cs im vs n r q)
  unfolding call
  calls none cs im vs n r q = other Call 39 (omega arith)
  calls (some c) cs im vs n r q = either Call _ _ _ tt (other Call 43 (omega arith))

  propagates : (x : Wrapper) (v u : Val) (r : List Val) (q : ℕ) → O Propagate (propagate A x s v u r q)
  unfolding propagate
  propagates an_ok v u r q = same Propagate refl
  propagates an_err v u r q = tt
  propagates no_wrapper v u r q = same Propagate refl

  captures : (x y : Bool) (c k q : ℕ) → O BuildClosure (capture A x y s f c k q)
  unfolding capture
  captures true y c k q = same BuildClosure refl
  captures false true c k q = other BuildClosure 44 (omega arith)
  captures false false c k q = same BuildClosure refl

  -- PopScope's test, over the scope starts as they stand: m of them may not be popped
  closes : (m q : ℕ) → m ≡ length st₀ → O PopScope (pop_scope A (leb (length s.scope_starts) m) s s.scope_starts q)
  closes m q e =
      subst (λ (l : List ℕ). O PopScope (pop_scope A (leb (length s.scope_starts) m) s l q)) (sym w.starts)
      (pops _ q (λ t. omega (arith, e, long, leb-true (length s.scope_starts) m t)) (λ t. omega (arith, e, long, leb-false (length s.scope_starts) m t)) z refl)
    where
      long : length s.scope_starts ≡ length z + length st₀
      long = ap length w.starts ∙ length-append z st₀

module _ {Val Cells : Type 0} (A : Alg Val Cells) (im : Image) (s : State Val Cells) (f : Frame) (lb : ℕ) (st₀ z : List ℕ) (w : Standing s f lb st₀ z) (i : Instr) where
  takes' : (o : OpCode) (n : ℕ) (k : List Val → List Val → Act Val Cells) → O A s f lb st₀ z w o (k (take n s.operands) (drop n s.operands)) → O
      A s f lb st₀ z w o (taking n s k)
  takes' = takes A s f lb st₀ z w

  leaf' : (o : OpCode) (r : List Val) (q : ℕ) (x : Answer Val) → depth_after o (length z) ≡ length z → O A s f lb st₀ z w o (answer A s r q x)
  leaf' = answers A s f lb st₀ z w

  stay : (o : OpCode) → depth_after o (length z) ≡ length z → Own o lb st₀ (length z) s.locals s.locals s.scope_starts
  stay = same A s f lb st₀ z w

  pub owns : (o : OpCode) → Owns o lb st₀ (length z) s (perform A im s f i o)
  unfolding perform
  owns Const = option A s f lb st₀ z w Const 32 _ _ (omega arith) (λ v. stay Const refl)
  owns Add = takes' Add 2 _ (leaf' Add _ _ _ refl)
  owns Sub = takes' Sub 2 _ (leaf' Sub _ _ _ refl)
  owns Mul = takes' Mul 2 _ (leaf' Mul _ _ _ refl)
  owns Div = takes' Div 2 _ (leaf' Div _ _ _ refl)
  owns Negate = takes' Negate 1 _ (leaf' Negate _ _ _ refl)
  owns Not = takes' Not 1 _ (leaf' Not _ _ _ refl)
  owns Eq = takes' Eq 2 _ (stay Eq refl)
  owns NotEq = takes' NotEq 2 _ (stay NotEq refl)
  owns Less = takes' Less 2 _ (leaf' Less _ _ _ refl)
  owns LessEq = takes' LessEq 2 _ (leaf' LessEq _ _ _ refl)
  owns Greater = takes' Greater 2 _ (leaf' Greater _ _ _ refl)
  owns GreaterEq = takes' GreaterEq 2 _ (leaf' GreaterEq _ _ _ refl)
  owns GetLocal = option A s f lb st₀ z w GetLocal 34 _ _ (omega arith) (λ v. stay GetLocal refl)
  owns SetLocal = takes' SetLocal 1 _ (sets A s f lb st₀ z w i.a _ _ _ _)
  owns GetGlobal = option A s f lb st₀ z w GetGlobal 35 _ _ (omega arith) (λ v. stay GetGlobal refl)
  owns SetGlobal = takes' SetGlobal 1 _ (either A s f lb st₀ z w SetGlobal _ _ _ (stay SetGlobal refl) (less A s f lb st₀ z w SetGlobal 35 (omega arith)))
  owns DefineLocal = takes' DefineLocal 1 _ (defines A s f lb st₀ z w _ _ i.a _ _)
  owns Pop = takes' Pop 1 _ (stay Pop refl)
  owns Return = tt
  owns PushScope = opens A s f lb st₀ z w
  owns PopScope = closes A s f lb st₀ z w _ _ (omega (arith, w.bottom))
  owns Jump = stay Jump refl
  owns JumpIfFalse = takes' JumpIfFalse 1 _ (branches A s f lb st₀ z w _ _ _ _)
  owns Loop = either A s f lb st₀ z w Loop _ _ _ (stay Loop refl) (less A s f lb st₀ z w Loop 33 (omega arith))
  owns Call = takes' Call (suc i.a) _ (calls A s f lb st₀ z w _ _ im _ _ _ _)
  owns Ok = takes' Ok 1 _ (stay Ok refl)
  owns Err = takes' Err 1 _ (stay Err refl)
  owns Propagate = takes' Propagate 1 _ (propagates A s f lb st₀ z w _ _ _ _ _)
  owns Error = takes' Error 1 _ (stay Error refl)
  owns BuildArr = takes' BuildArr i.a _ (stay BuildArr refl)
  owns BuildTuple = takes' BuildTuple i.a _ (stay BuildTuple refl)
  owns Index = takes' Index 2 _ (leaf' Index _ _ _ refl)
  owns ArrLen = takes' ArrLen 1 _ (leaf' ArrLen _ _ _ refl)
  owns ArrSet = takes' ArrSet 3 _ (leaf' ArrSet _ _ _ refl)
  owns BuildClosure = option A s f lb st₀ z w BuildClosure 32 _ _ (omega arith) (λ c. captures A s f lb st₀ z w _ _ c _ _)
  owns Cast = takes' Cast 1 _ (option A s f lb st₀ z w Cast 30 _ _ (omega arith) (λ t. leaf' Cast _ _ _ refl))
  owns IsKind = takes' IsKind 1 _ (either A s f lb st₀ z w IsKind _ _ _ (stay IsKind refl) (less A s f lb st₀ z w IsKind 32 (omega arith)))
