-- A step stops with 30, 32 or 33 exactly where the check's fault is 10, 12 or 11, operands being enough.
use mathlib.Core.Path.{◌≡◌, refl, sym, ◌∙◌, ap, subst}
use mathlib.Core.Logic.{◌⊎◌, inl, inr}
use mathlib.Core.List.{List, [], ◌∷◌}
use mathlib.Core.Option.{Option, none, some}
use mathlib.Core.Bool.{Bool, true, false}
use Prim.Native.Nat.{ℕ, suc, ◌≤◌, ◌<◌}
use native.Mathlib.Omega.{arith}
use lib.Dec.{leb}
use borrow.Author.Tests.{lt-ltb, leb-false}
use lib.ListN.{length, take, drop}
use Rattle.definition.specs.Table.{
  OpCode,
  Const,
  Add,
  Sub,
  Mul,
  Div,
  Negate,
  Not,
  Eq,
  NotEq,
  Less,
  LessEq,
  Greater,
  GreaterEq,
  GetLocal,
  SetLocal,
  GetGlobal,
  SetGlobal,
  DefineLocal,
  Pop,
  Return,
  PushScope,
  PopScope,
  Jump,
  JumpIfFalse,
  Loop,
  Call,
  Ok,
  Err,
  Propagate,
  Error,
  BuildArr,
  BuildTuple,
  Index,
  ArrLen,
  ArrSet,
  BuildClosure,
  Cast,
  IsKind,
  row,
  need,
}
use Rattle.definition.specs.Image.{Image, chunk_at}
use Rattle.definition.specs.Constants.{constant_at, function_at}
use Rattle.definition.specs.Decode.{Instr, decode, target_at, is_some, unless, fault_of, fault_in, fault as fault_at}
use Rattle.definition.specs.Shape.{Alg, Callee, Wrapper, an_ok, an_err, no_wrapper}
use Rattle.definition.specs.Operation.{Answer, got, new, bad, OperationFault, overflow, zero_divisor, wrong_kind, unordered, outside, bad_cast, fault_number}
use Rattle.definition.specs.State.{Frame, State, value, stop, Outcome, next, done, Act, go_on, fault, enter, leave}
use Rattle.definition.specs.Step.{
  taking,
  or_fault,
  if_else,
  answer,
  define,
  pop_scope,
  branch,
  call,
  propagate,
  capture,
  perform,
  bounded,
  finish_call,
  carry,
  begin,
  budgeted,
  within,
  step_in,
  step,
}
use Rattle.definition.specs.Claims.{AtOffset, Enough, StopsAs, FaultsOfSteps}

-- the check's fault m and the number n of a stop, where operands are enough (E), or not
abbrev pub Same : Type 0 → ℕ → ℕ → Type 0
Same E m n = (n ≡ 30 → m ≡ 10) × (n ≡ 32 → m ≡ 12) × (n ≡ 33 → m ≡ 11) × (E → (m ≡ 10 → n ≡ 30) × (m ≡ 12 → n ≡ 32) × (m ≡ 11 → n ≡ 33))

none_of : (E : Type 0) (m n : ℕ) → m ≡ 0 → 40 < n → Same E m n
none_of E m n e h = ((λ z. absurd (omega arith)), (λ z. absurd (omega arith)), (λ z. absurd (omega arith)), (λ g. omega arith))

-- within the budget and before the code's end, an instruction begins
begins : {Val Cells : Type 0} (A : Alg Val Cells) (im : Image) (budget : ℕ) (s : State Val Cells) (f : Frame) (fs : List Frame) → AtOffset A im budget s f fs
    → step A im budget s ≡ begin A im s f fs (decode (chunk_at im f.chunk).code f.position)
unfolding step step_in within budgeted
begins A im budget s f fs w =
    ap (λ (l : List Frame). step_in A im budget s l) w.frames
    ∙ rw (lt-ltb f.position (length (chunk_at im f.chunk).code) w.before, lt-ltb s.count budget w.paid) refl

module _ {Val Cells : Type 0} (A : Alg Val Cells) (s : State Val Cells) where
  abbrev pub k : ℕ
  k = length s.operands

  module _ (a : ℕ) where
    -- the act of o, where the check's fault is m
    abbrev pub Agrees : OpCode → ℕ → Act Val Cells → Type 0
    Agrees o m (go_on vs r q ls st gs cs) = m ≡ 0
    Agrees o m (fault n) = Same (need o a ≤ k) m n
    Agrees o m (enter c own r q) = m ≡ 0
    Agrees o m (leave v r) = m ≡ 0

    leaf : (o : OpCode) (e : OperationFault) → Agrees o 0 (fault (fault_number e))
    leaf o overflow = omega arith
    leaf o zero_divisor = omega arith
    leaf o wrong_kind = omega arith
    leaf o unordered = omega arith
    leaf o outside = omega arith
    leaf o bad_cast = omega arith

    takes : (o : OpCode) (n m : ℕ) (c : List Val → List Val → Act Val Cells) → n ≡ need o a → Agrees o m (c (take n s.operands) (drop n s.operands))
        → Agrees o m (taking n s c)
    unfolding taking if_else
    takes o n m c e h = go (leb n k) refl
      where
        go : (b : Bool) → leb n k ≡ b → Agrees o m (if_else b (c (take n s.operands) (drop n s.operands)) (fault 31))
        go true t = h
        go false t = omega (arith, leb-false n k t)

    either : (o : OpCode) (m : ℕ) (b : Bool) (x y : Act Val Cells) → Agrees o m x → Agrees o m y → Agrees o m (if_else b x y)
    unfolding if_else
    either o m true x y g h = g
    either o m false x y g h = h

    option : {B : Type 0} (o : OpCode) (m n : ℕ) (x : Option B) (c : B → Act Val Cells) → Agrees o m (fault n) → ((v : B) → Agrees o m (c v)) → Agrees o m (or_fault n x c)
    unfolding or_fault
    option o m n none c g h = g
    option o m n (some v) c g h = h v

    -- a test b of the step that the check makes too, as c
    tested : (o : OpCode) (m : ℕ) (b c : Bool) (x y : Act Val Cells) → b ≡ c → Agrees o 0 x → Agrees o m y → Agrees o (unless c m) (if_else b x y)
    unfolding if_else
    tested o m b c x y e g h = subst (λ (d : Bool). Agrees o (unless d m) (if_else b x y)) e (go b)
      where
        go : (d : Bool) → Agrees o (unless d m) (if_else d x y)
        go true = g
        go false = h

    -- what the step looks up, x, and the check too, as y
    found : {B : Type 0} (o : OpCode) (m n : ℕ) (x y : Option B) (c : B → Act Val Cells) → x ≡ y → Agrees o m (fault n) → ((v : B) → Agrees o 0 (c v))
        → Agrees o (unless (is_some y) m) (or_fault n x c)
    unfolding or_fault
    found {B} o m n x y c e g h = subst (λ (z : Option B). Agrees o (unless (is_some z) m) (or_fault n x c)) e (go x)
      where
        go : (z : Option B) → Agrees o (unless (is_some z) m) (or_fault n z c)
        go none = g
        go (some v) = h v

    answers : (o : OpCode) (r : List Val) (q : ℕ) (x : Answer Val) → Agrees o 0 (answer A s r q x)
    unfolding answer
    answers o r q (got v) = refl
    answers o r q (new v) = refl
    answers o r q (bad x) = leaf o x

    defines : (b : Bool) (r : List Val) (f : Frame) (n : ℕ) (v : Val) (q : ℕ) → Agrees DefineLocal 0 (define A b s r f n v q)
    unfolding define
    defines true r f n v q = refl
    defines false r f n v q = refl

    pops : (b : Bool) (st : List ℕ) (q : ℕ) → Agrees PopScope 0 (pop_scope A b s st q)
    unfolding pop_scope
    pops true st q = omega arith
    pops false [] q = omega arith
    pops false (n ∷ st) q = refl

    captures : (x y : Bool) (f : Frame) (c n q : ℕ) → Agrees BuildClosure 0 (capture A x y s f c n q)
    unfolding capture
    captures true y f c n q = refl
    captures false true f c n q = omega arith
    captures false false f c n q = refl

    branches : (x : Option Bool) (r : List Val) (p q : ℕ) → Agrees JumpIfFalse 0 (branch A x s r p q)
    unfolding branch
    branches none r p q = omega arith
    branches (some false) r p q = refl
    branches (some true) r p q = refl

    calls : (x : Option Callee) (cs : List Val) (im : Image) (vs : List Val) (n : ℕ) (r : List Val) (q : ℕ) → Agrees Call 0 (call A x cs im vs n r q)
    unfolding call
    calls none cs im vs n r q = omega arith
    calls (some c) cs im vs n r q = either Call 0 _ _ _ refl (omega arith)

    propagates : (x : Wrapper) (v w : Val) (r : List Val) (q : ℕ) → Agrees Propagate 0 (propagate A x s v w r q)
    unfolding propagate
    propagates an_ok v w r q = refl
    propagates an_err v w r q = refl
    propagates no_wrapper v w r q = refl

  module _ (im : Image) (f : Frame) (i : Instr) where
    -- the check's fault of the instruction i, were it o
    abbrev pub seen : OpCode → ℕ
    seen o = fault_of (row o).static (chunk_at im f.chunk).constants f.position i

    takes' : (o : OpCode) (n m : ℕ) (c : List Val → List Val → Act Val Cells) → n ≡ need o i.a → Agrees i.a o m (c (take n s.operands) (drop
        n s.operands)) → Agrees i.a o m (taking n s c)
    takes' = takes i.a

    leaf' : (o : OpCode) (r : List Val) (q : ℕ) (x : Answer Val) → Agrees i.a o 0 (answer A s r q x)
    leaf' = answers i.a

    pub agrees : (o : OpCode) → Agrees i.a o (seen o) (perform A im s f i o)
    unfolding perform
    agrees Const = found i.a Const 12 32 _ (constant_at (chunk_at im f.chunk).constants i.a) _ refl (omega arith) (λ v. refl)
    agrees Add = takes' Add 2 0 _ refl (leaf' Add _ _ _)
    agrees Sub = takes' Sub 2 0 _ refl (leaf' Sub _ _ _)
    agrees Mul = takes' Mul 2 0 _ refl (leaf' Mul _ _ _)
    agrees Div = takes' Div 2 0 _ refl (leaf' Div _ _ _)
    agrees Negate = takes' Negate 1 0 _ refl (leaf' Negate _ _ _)
    agrees Not = takes' Not 1 0 _ refl (leaf' Not _ _ _)
    agrees Eq = takes' Eq 2 0 _ refl refl
    agrees NotEq = takes' NotEq 2 0 _ refl refl
    agrees Less = takes' Less 2 0 _ refl (leaf' Less _ _ _)
    agrees LessEq = takes' LessEq 2 0 _ refl (leaf' LessEq _ _ _)
    agrees Greater = takes' Greater 2 0 _ refl (leaf' Greater _ _ _)
    agrees GreaterEq = takes' GreaterEq 2 0 _ refl (leaf' GreaterEq _ _ _)
    agrees GetLocal = option i.a GetLocal 0 34 _ _ (omega arith) (λ v. refl)
    agrees SetLocal = takes' SetLocal 1 0 _ refl (either i.a SetLocal 0 _ _ _ refl (omega arith))
    agrees GetGlobal = option i.a GetGlobal 0 35 _ _ (omega arith) (λ v. refl)
    agrees SetGlobal = takes' SetGlobal 1 0 _ refl (either i.a SetGlobal 0 _ _ _ refl (omega arith))
    agrees DefineLocal = takes' DefineLocal 1 0 _ refl (defines i.a _ _ f _ _ _)
    agrees Pop = takes' Pop 1 0 _ refl refl
    agrees Return = refl
    agrees PushScope = refl
    agrees PopScope = pops i.a _ _ _
    agrees Jump = refl
    agrees JumpIfFalse = takes' JumpIfFalse 1 0 _ refl (branches i.a _ _ _ _)
    agrees Loop = tested i.a Loop 11 _ _ _ _ (ap (leb i.a) (omega arith)) refl (omega arith)
    agrees Call = takes' Call (suc i.a) 0 _ refl (calls i.a _ _ im _ _ _ _)
    agrees Ok = takes' Ok 1 0 _ refl refl
    agrees Err = takes' Err 1 0 _ refl refl
    agrees Propagate = takes' Propagate 1 0 _ refl (propagates i.a _ _ _ _ _)
    agrees Error = takes' Error 1 0 _ refl refl
    agrees BuildArr = takes' BuildArr i.a 0 _ refl refl
    agrees BuildTuple = takes' BuildTuple i.a 0 _ refl refl
    agrees Index = takes' Index 2 0 _ refl (leaf' Index _ _ _)
    agrees ArrLen = takes' ArrLen 1 0 _ refl (leaf' ArrLen _ _ _)
    agrees ArrSet = takes' ArrSet 3 0 _ refl (leaf' ArrSet _ _ _)
    agrees BuildClosure = found i.a BuildClosure 12 32 _ (function_at (chunk_at im f.chunk).constants i.a) _ refl (omega arith) (λ c. captures i.a _ _ f c _ _)
    agrees Cast = takes' Cast 1 _ _ refl (found i.a Cast 10 30 _ (target_at i.a) _ (ap target_at (omega arith)) (omega arith) (λ t. leaf' Cast _ _ _))
    agrees IsKind = takes' IsKind 1 _ _ refl (tested i.a IsKind 12 _ _ _ _ refl refl (omega arith))

  module _ (f : Frame) where
    -- the stop of this instruction with n
    abbrev here : ℕ → Outcome Val Cells
    here n = done (stop n (suc s.count) f.chunk f.position)

    -- what comes of the step, where the check's fault is m
    abbrev Out : Type 0 → ℕ → Outcome Val Cells → Type 0
    Out E m (next t) = m ≡ 0
    Out E m (done (value n v cs)) = m ≡ 0
    Out E m (done (stop n c d p)) = Same E m n × ((m ≡ 0) ⊎ (◌≡◌ {A = Outcome Val Cells} (done (stop n c d p)) (here n)))

    bounded_out : (E : Type 0) (m : ℕ) (b : Bool) (t : State Val Cells) (p : ℕ) → m ≡ 0 → Out E m (bounded A b t f p)
    unfolding bounded
    bounded_out E m true t p e = e
    bounded_out E m false t p e = (none_of E m 45 e (omega arith), inl e)

    finish_out : (E : Type 0) (m : ℕ) (b : Bool) (t : State Val Cells) (fs : List Frame) (v : Val) (p : ℕ) → m ≡ 0 → Out E m (finish_call A b t f fs v p)
    unfolding finish_call
    finish_out E m false t fs v p e = (none_of E m 45 e (omega arith), inl e)
    finish_out E m true t [] v p e = e
    finish_out E m true t (g ∷ gs) v p e = e

    carry_out : (fs : List Frame) (o : OpCode) (a m : ℕ) (x : Act Val Cells) → Agrees a o m x → Out (need o a ≤ k) m (carry A s f fs x)
    unfolding carry
    carry_out fs o a m (go_on vs r q ls st gs cs) h = bounded_out _ m _ _ _ h
    carry_out fs o a m (fault n) h = (h, inr refl)
    carry_out fs o a m (enter c own r q) h = bounded_out _ m _ _ _ h
    carry_out fs o a m (leave v r) h = finish_out _ m _ _ fs v _ h

    enough : (E F : Type 0) → (F → E) → (m : ℕ) (x : Outcome Val Cells) → Out E m x → Out F m x
    enough E F g m (next t) h = h
    enough E F g m (done (value n v cs)) h = h
    enough E F g m (done (stop n c d p)) h = ((h.0.0, h.0.1, h.0.2, (λ e. h.0.3 (g e))), h.1)

    begin_out : (im : Image) (fs : List Frame) (x : Option Instr)
        → Out ((i : Instr) → x ≡ some i → need i.op i.a ≤ k) (fault_in (chunk_at im f.chunk).constants f.position x) (begin A im s f fs x)
    unfolding begin
    begin_out im fs none = (
      (
        (λ e. refl),
        (λ e. absurd (omega arith)),
        (λ e. absurd (omega arith)),
        (λ g. (
          (λ e. refl),
          (λ e. absurd (omega arith)),
          (λ e. absurd (omega arith)),
        )),
      ),
      inr refl,
    )
    begin_out im fs (some i) =
        let x = perform A im s f i i.op in
        enough (need i.op i.a ≤ k) ((j : Instr) → some i ≡ some j → need j.op j.a ≤ k) (λ g. g i refl) (seen im f i i.op) (carry A s f fs x)
        (carry_out fs i.op i.a (seen im f i i.op) x (agrees im f i i.op))

    -- read off, for each of the three pairs of numbers
    stops_as : (n m : ℕ) (im : Image) (budget : ℕ) → 0 < m
        → ((E : Type 0) (a b : ℕ) → Same E a b → E → a ≡ m → b ≡ n) → ((E : Type 0) (a : ℕ) → Same E a n → a ≡ m)
        → Out (Enough A im s f) (fault_at (chunk_at im f.chunk) f.position) (step A im budget s)
        → StopsAs A n m im budget s f
    stops_as n m im budget p g h w = record {
      always = λ e q. go _ w e q;
      only = λ c d q e. h _ _ (subst (Out _ _) e w).0;
    }
      where
        go : (x : Outcome Val Cells) → Out (Enough A im s f) (fault_at (chunk_at im f.chunk) f.position) x → fault_at (chunk_at im f.chunk) f.position
            ≡ m → Enough A im s f → x ≡ here n
        go (next t) z e q = absurd (omega arith)
        go (done (value c v cs)) z e q = absurd (omega arith)
        go (done (stop b c d r)) (z, inl y) e q = absurd (omega arith)
        go (done (stop b c d r)) (z, inr y) e q = y ∙ ap here (g _ _ b z q e)

said : {Val Cells : Type 0} (A : Alg Val Cells) (im : Image) (budget : ℕ) (s : State Val Cells) (f : Frame) (fs : List Frame) → AtOffset A im budget s f fs
    → Out A s f (Enough A im s f) (fault_at (chunk_at im f.chunk) f.position) (step A im budget s)
unfolding fault_at
said A im budget s f fs w = subst (Out A s f _ _) (sym (begins A im budget s f fs w)) (begin_out A s f im fs _)

pub faults_of_steps : {Val Cells : Type 0} (A : Alg Val Cells) → FaultsOfSteps A
faults_of_steps A im budget s f fs w = record {
  unknown = stops_as A s f 30 10 im budget (omega arith) (λ E a b h e. (h.3 e).0) (λ E a h. h.0 refl) (said A im budget s f fs w);
  constant = stops_as A s f 32 12 im budget (omega arith) (λ E a b h e. (h.3 e).1) (λ E a h. h.1 refl) (said A im budget s f fs w);
  before_0 = stops_as A s f 33 11 im budget (omega arith) (λ E a b h e. (h.3 e).2) (λ E a h. h.2 refl) (said A im budget s f fs w);
}
