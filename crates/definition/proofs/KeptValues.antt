-- A test of heads that the constants of an image and all that its instructions make pass is passed by every value of every run of it.
use mathlib.Core.Path.{◌≡◌, refl, ap, subst, subst⁻¹}
use mathlib.Core.List.{List, [], ◌∷◌, ◌++◌, reverse, reverse_aux}
use mathlib.Core.Option.{Option, none, some}
use mathlib.Core.Bool.{Bool, true, false, not, ◌&&◌}
use Prim.Native.Nat.{ℕ, zero, suc, ◌+◌, ◌-◌, ◌≤◌, ◌<◌}
use native.Mathlib.Omega.{arith as linear}
use borrow.Author.Tests.{ltb-true, leb-true}
use lib.Dec.{leb, ltb, eqb}
use lib.IntN.{ℤ, pos, negsuc}
use lib.ListN.{length, get_or, get_elem?, take, drop, set, replicate, length-take, length-drop, length-set, length-reverse}
use Rattle.std.proofs.Common.{Result, Ok, Err}
use Rattle.numbers.specs.declared.Number.{Number}
use Rattle.numbers.specs.declared.CastTarget.{CastTarget}
use Rattle.numbers.specs.declared.NumberFault.{NumberFault}
use Rattle.numbers.specs.declared.NumberFault.TheVariants.{Overflow, ZeroDivisor, WrongKind, InvalidCast}
use Rattle.numbers.specs.declared.ComparisonFault.{ComparisonFault}
use Rattle.numbers.specs.declared.ComparisonFault.TheVariants as comparison
use Rattle.numbers.specs.Arithmetic.{add_of, sub_of, mul_of, div_of, negate_of}
use Rattle.numbers.specs.Compare.{less_of, less_eq_of, greater_of, greater_eq_of}
use Rattle.numbers.specs.Casts.{cast_of}
use Rattle.definition.specs.Table.{
  OpCode,
  Const,
  Add,
  Sub,
  Mul,
  Div,
  Negate,
  Not,
  Eq,
  NotEq,
  Less,
  LessEq,
  Greater,
  GreaterEq,
  GetLocal,
  SetLocal,
  GetGlobal,
  SetGlobal,
  DefineLocal,
  Pop,
  Return,
  PushScope,
  PopScope,
  Jump,
  JumpIfFalse,
  Loop,
  Call,
  Ok,
  Err,
  Propagate,
  Error,
  BuildArr,
  BuildTuple,
  Index,
  ArrLen,
  ArrSet,
  BuildClosure,
  Cast,
  IsKind,
}
use Rattle.definition.specs.Image.{Image, chunk_at}
use Rattle.definition.specs.Constants.{constant_head}
use Rattle.definition.specs.Decode.{Instr}
use Rattle.definition.specs.Value.{Head, null, num, bool, str, char, arr, tuple, function, ok, error, err, closure, Value, Values, values, list}
use Rattle.definition.specs.Shape.{Shape, shape, scalar, Callee, bool_of, number_of, callee_of, Wrapper, an_ok, an_err, no_wrapper, Sequence, an_arr, a_tuple, no_sequence, sequence_of}
use Rattle.definition.specs.Trees.{trees, view_tree, make_tree}
use Rattle.definition.specs.Operation.{Answer, got, new, bad, OperationFault, overflow, zero_divisor, wrong_kind, unordered, outside, bad_cast, fault_number}
use Rattle.definition.specs.Numbers.{arith, compare, negate, cast, invert, number, verdict, of_two, compare_two, of_one, inverted}
use Rattle.definition.specs.Arrays.{index, arr_len, arr_set, index_in, element, element_at, indexed, length_of, replaced, replaced_at, changed}
use Rattle.definition.specs.State.{Frame, State, Ending, value, stop, Outcome, next, done, Act, go_on, fault, enter, leave}
use Rattle.definition.specs.Step.{
  put,
  makes,
  taking,
  or_fault,
  if_else,
  answer,
  grown,
  define,
  pop_scope,
  branch,
  call,
  propagate,
  capture,
  perform,
  fits,
  bounded,
  kept_locals,
  left,
  finish_call,
  carry,
  begin,
  budgeted,
  within,
  step_in,
  step,
}
use Rattle.definition.specs.Run.{Run, initial, at, IsRun}
use Rattle.definition.specs.KeptValues.{All, nil, cons, Throughout, Throughouts, whole, nothing, each, Holds, Closed, RunKeeps, ValuesKept}
use Rattle.definition.proofs.Judged.{first, second}

-- ---- lists
module _ {X : Type 0} {R : X → Type 0} where
  all_get_d : {xs : List X} {d : X} → All R xs → R d → (n : ℕ) → R (get_or xs n d)
  all_get_d nil z n = z
  all_get_d (cons r rs) z zero = r
  all_get_d (cons r rs) z (suc n) = all_get_d rs z n

  all_take : (n : ℕ) {xs : List X} → All R xs → All R (take n xs)
  all_take zero rs = nil
  all_take (suc n) nil = nil
  all_take (suc n) (cons r rs) = cons r (all_take n rs)

  all_drop : (n : ℕ) {xs : List X} → All R xs → All R (drop n xs)
  all_drop zero rs = rs
  all_drop (suc n) nil = nil
  all_drop (suc n) (cons r rs) = all_drop n rs

  all_set : {xs : List X} {x : X} → All R xs → (n : ℕ) → R x → All R (set xs n x)
  all_set nil n z = nil
  all_set (cons r rs) zero z = cons z rs
  all_set (cons r rs) (suc n) z = cons r (all_set rs n z)

  all_append : {xs us : List X} → All R xs → All R us → All R (xs ++ us)
  all_append nil q = q
  all_append (cons r rs) q = cons r (all_append rs q)

  all_onto : {xs us : List X} → All R xs → All R us → All R (reverse_aux xs us)
  all_onto nil q = q
  all_onto (cons r rs) q = all_onto rs (cons r q)

  all_reverse : {xs : List X} → All R xs → All R (reverse xs)
  all_reverse rs = all_onto rs nil

  all_replicate : (n : ℕ) (x : X) → R x → All R (replicate n x)
  all_replicate zero x r = nil
  all_replicate (suc n) x r = cons r (all_replicate n x r)

data Found {X : Type 0} (R : X → Type 0) : Option X → Type 0 where
  nowhere : Found R none
  there : {x : X} → R x → Found R (some x)

all_find : {X : Type 0} {R : X → Type 0} {xs : List X} → All R xs → (n : ℕ) → Found R (get_elem? xs n)
all_find nil n = nowhere
all_find (cons r rs) zero = there r
all_find (cons r rs) (suc n) = all_find rs n

take_few : {X : Type 0} (n m : ℕ) (l : List X) → length l ≤ m → length (take n l) ≤ m
take_few n m l h = let e = length-take n l in omega (linear, e)

drop_few : {X : Type 0} (n m : ℕ) (l : List X) → length l ≤ m → length (drop n l) ≤ m
drop_few n m l h = let e = length-drop n l in omega (linear, e)

-- the numbers with which an instruction stops
abbrev pub numbered : ℕ → Bool
numbered n = leb 30 n && leb n 46

list_values : (xs : List Value) → list (values xs) ≡ xs
list_values [] = refl
list_values (x ∷ xs) = ap (λ (l : List Value). x ∷ l) (list_values xs)

module _ (test : Head → Bool) where
  abbrev Every : List Value → Type 0
  Every = All (Throughout test)

  -- ---- shapes
  record Fine (x : Shape Value) : Type 0 where
    head : test x.head ≡ true
    few : length x.parts ≤ 1024
    parts : Every x.parts

  parts_all : {vs : Values} → Throughouts test vs → Every (list vs)
  parts_all nothing = nil
  parts_all (each r rs) = cons r (parts_all rs)

  all_parts : {xs : List Value} → Every xs → Throughouts test (values xs)
  all_parts nil = nothing
  all_parts (cons r rs) = each r (all_parts rs)

  made_whole : (x : Shape Value) → Fine x → Throughout test (make_tree x)
  made_whole x w = whole w.head (subst⁻¹ (λ (l : List Value). length l ≤ 1024) (list_values x.parts) w.few) (all_parts w.parts)

  see : {v : Value} → Throughout test v → Fine (view_tree v)
  see (whole t n ps) = record { head = t; few = n; parts = parts_all ps }

  scalar_fine : (h : Head) → test h ≡ true → Fine (scalar h)
  scalar_fine h t = record { head = t; few = let z : 0 ≤ 1024 = omega linear in z; parts = nil }

  -- ---- operations
  data AnswerKept : Answer Value → Type 0 where
    old : {v : Value} → Throughout test v → AnswerKept (got v)
    made : {x : Shape Value} → Fine x → AnswerKept (new x)
    refused : {e : OperationFault} → AnswerKept (bad e)

  number_kept : (a : Result Number NumberFault) → ((x : Number) → a ≡ Ok x → test (num x) ≡ true) → AnswerKept (number a)
  number_kept (Ok x) f = made (scalar_fine (num x) (f x refl))
  number_kept (Err Overflow) f = refused
  number_kept (Err ZeroDivisor) f = refused
  number_kept (Err WrongKind) f = refused
  number_kept (Err InvalidCast) f = refused

  -- the number in a head that passes
  abbrev NumberKept : Option Number → Type 0
  NumberKept none = Unit {0}
  NumberKept (some a) = test (num a) ≡ true

  number_in : (h : Head) → test h ≡ true → NumberKept (number_of h)
  number_in null t = tt
  number_in (num x) t = t
  number_in (bool b) t = tt
  number_in (str n) t = tt
  number_in (char n) t = tt
  number_in arr t = tt
  number_in tuple t = tt
  number_in (function c) t = tt
  number_in ok t = tt
  number_in error t = tt
  number_in err t = tt
  number_in (closure c j) t = tt

  abbrev OfTwo : (Number → Number → Result Number NumberFault) → Type 0
  OfTwo f = (a b x : Number) → test (num a) ≡ true → test (num b) ≡ true → f a b ≡ Ok x → test (num x) ≡ true

  abbrev OfOne : (Number → Result Number NumberFault) → Type 0
  OfOne f = (a x : Number) → test (num a) ≡ true → f a ≡ Ok x → test (num x) ≡ true

  two_kept : (f : Number → Number → Result Number NumberFault) → OfTwo f → (p q : Option Number) → NumberKept p → NumberKept q → AnswerKept (of_two f p q)
  two_kept f k none q s t = refused
  two_kept f k (some a) none s t = refused
  two_kept f k (some a) (some b) s t = number_kept (f a b) (λ x. k a b x s t)

  arith_kept : (f : Number → Number → Result Number NumberFault) → OfTwo f → {x y : Shape Value} → Fine x → Fine y → AnswerKept (arith f x.head y.head)
  unfolding arith
  arith_kept f k {x} {y} u v = two_kept f k (number_of x.head) (number_of y.head) (number_in x.head u.head) (number_in y.head v.head)

  one_kept : (f : Number → Result Number NumberFault) (e : OperationFault) → OfOne f → (p : Option Number) → NumberKept p → AnswerKept (of_one f (bad e) p)
  one_kept f e k none s = refused
  one_kept f e k (some a) s = number_kept (f a) (λ x. k a x s)

  negate_kept : OfOne negate_of → {x : Shape Value} → Fine x → AnswerKept (negate x.head)
  unfolding negate
  negate_kept k {x} u = one_kept negate_of wrong_kind k (number_of x.head) (number_in x.head u.head)

  cast_kept : (t : CastTarget) → OfOne (cast_of t) → {x : Shape Value} → Fine x → AnswerKept (cast t x.head)
  unfolding cast
  cast_kept t k {x} u = one_kept (cast_of t) bad_cast k (number_of x.head) (number_in x.head u.head)

  module _ (bools : (b : Bool) → test (bool b) ≡ true) where
    verdict_kept : (a : Result Bool ComparisonFault) → AnswerKept (verdict a)
    verdict_kept (Ok b) = made (scalar_fine (bool b) (bools b))
    verdict_kept (Err comparison.Unordered) = refused
    verdict_kept (Err comparison.WrongKind) = refused

    compare_two_kept : (f : Number → Number → Result Bool ComparisonFault) (p q : Option Number) → AnswerKept (compare_two f p q)
    compare_two_kept f none q = refused
    compare_two_kept f (some a) none = refused
    compare_two_kept f (some a) (some b) = verdict_kept (f a b)

    compare_kept : (f : Number → Number → Result Bool ComparisonFault) (h g : Head) → AnswerKept (compare f h g)
    unfolding compare
    compare_kept f h g = compare_two_kept f (number_of h) (number_of g)

    inverted_kept : (p : Option Bool) → AnswerKept (inverted p)
    inverted_kept none = refused
    inverted_kept (some b) = made (scalar_fine (bool (not b)) (bools (not b)))

    invert_kept : (h : Head) → AnswerKept (invert h)
    unfolding invert
    invert_kept h = inverted_kept (bool_of h)

  element_kept : {p : Option Value} → Found (Throughout test) p → AnswerKept (element p)
  element_kept nowhere = refused
  element_kept (there r) = old r

  element_at_kept : {xs : List Value} → Every xs → (z : Option ℤ) → AnswerKept (element_at xs z)
  element_at_kept rs none = refused
  element_at_kept rs (some (pos n)) = element_kept (all_find rs n)
  element_at_kept rs (some (negsuc n)) = refused

  indexed_kept : (s : Sequence) {xs : List Value} → Every xs → (z : Option ℤ) → AnswerKept (indexed s xs z)
  indexed_kept an_arr rs z = element_at_kept rs z
  indexed_kept a_tuple rs z = element_at_kept rs z
  indexed_kept no_sequence rs z = refused

  index_kept : (x : Shape Value) → Fine x → (h : Head) → AnswerKept (index x h)
  unfolding index
  index_kept x w h = indexed_kept (sequence_of x.head) w.parts (index_in (number_of h))

  abbrev Lengths : Type 0
  Lengths = (vs : List Value) (x : Number) → length vs ≤ 1024 → arr_len (shape arr vs) ≡ new (scalar (num x)) → test (num x) ≡ true

  length_kept : Lengths → (s : Sequence) (xs : List Value) → length xs ≤ 1024 → AnswerKept (length_of s xs)
  unfolding arr_len
  length_kept k an_arr xs l = made (scalar_fine _ (k xs _ l refl))
  length_kept k a_tuple xs l = refused
  length_kept k no_sequence xs l = refused

  arr_len_kept : Lengths → (x : Shape Value) → Fine x → AnswerKept (arr_len x)
  unfolding arr_len
  arr_len_kept k x w = length_kept k (sequence_of x.head) x.parts w.few

  module _ (arrs : test arr ≡ true) (xs : List Value) (few : length xs ≤ 1024) (rs : Every xs) (v : Value) (r : Throughout test v) where
    replaced_kept : (b : Bool) (n : ℕ) → AnswerKept (replaced b xs n v)
    replaced_kept true n = made (record { head = arrs; few = subst⁻¹ (λ (m : ℕ). m ≤ 1024) (length-set xs n v) few; parts = all_set rs n r })
    replaced_kept false n = refused

    replaced_at_kept : (z : Option ℤ) → AnswerKept (replaced_at xs z v)
    replaced_at_kept none = refused
    replaced_at_kept (some (pos n)) = replaced_kept (ltb n (length xs)) n
    replaced_at_kept (some (negsuc n)) = refused

    changed_kept : (s : Sequence) (z : Option ℤ) → AnswerKept (changed s xs z v)
    changed_kept an_arr z = replaced_at_kept z
    changed_kept a_tuple z = refused
    changed_kept no_sequence z = refused

  arr_set_kept : test arr ≡ true → (x : Shape Value) → Fine x → (h : Head) (v : Value) → Throughout test v → AnswerKept (arr_set x h v)
  unfolding arr_set
  arr_set_kept a x w h v r = changed_kept a x.parts w.few w.parts v r (sequence_of x.head) (index_in (number_of h))

  -- ---- acts
  data ActKept : Act Value ℕ → Type 0 where
    go : {vs r ls gs : List Value} {q cs : ℕ} {st : List ℕ} → Every vs → Every r → Every ls → Every gs → ActKept (go_on vs r q ls st gs cs)
    halt : {n : ℕ} → numbered n ≡ true → ActKept (fault n)
    into : {c q : ℕ} {own r : List Value} → test (function c) ≡ true → Every own → Every r → ActKept (enter c own r q)
    out : {v : Value} {r : List Value} → Throughout test v → Every r → ActKept (leave v r)

  operation_fault : (e : OperationFault) → numbered (fault_number e) ≡ true
  operation_fault overflow = refl
  operation_fault zero_divisor = refl
  operation_fault wrong_kind = refl
  operation_fault unordered = refl
  operation_fault outside = refl
  operation_fault bad_cast = refl

  abbrev CalleeKept : Option Callee → Type 0
  CalleeKept none = Unit {0}
  CalleeKept (some c) = test (function c.chunk) ≡ true

  tests : (b : Bool) {x u : Act Value ℕ} → ActKept x → ActKept u → ActKept (if_else b x u)
  unfolding if_else
  tests true p q = p
  tests false p q = q

  option : (z : ℕ) → numbered z ≡ true → {C : Type 0} (x : Option C) (f : C → Act Value ℕ) → ((c : C) → x ≡ some c → ActKept (f c)) → ActKept (or_fault z x f)
  unfolding or_fault
  option z n none f p = halt n
  option z n (some c) f p = p c refl

  found : (z : ℕ) → numbered z ≡ true → {x : Option Value} (f : Value → Act Value ℕ) → Found (Throughout test) x → ((v : Value) → Throughout test v →
      ActKept (f v)) → ActKept (or_fault z x f)
  unfolding or_fault
  found z n f nowhere p = halt n
  found z n f (there {x = v} r) p = p v r

  module _ (im : Image) (k : Closed im test) (s : State Value ℕ) (w : Holds test s) where
    null_kept : Throughout test trees.null
    null_kept = whole k.nulls (let z : 0 ≤ 1024 = omega linear in z) nothing

    puts : {vs r : List Value} (q : ℕ) → Every r → Every vs → ActKept (put s r vs q)
    puts q rr rv = go rv rr w.locals w.globals

    make : {r : List Value} (x : Shape Value) (q : ℕ) → Every r → Fine x → ActKept (makes trees s r x q)
    make x q rr f = go (cons (made_whole x f) nil) rr w.locals w.globals

    make_bool : {r : List Value} (b : Bool) (q : ℕ) → Every r → ActKept (makes trees s r (scalar (bool b)) q)
    make_bool b q rr = make (scalar (bool b)) q rr (scalar_fine (bool b) (k.bools b))

    takes : (z : ℕ) (f : List Value → List Value → Act Value ℕ) → ((vs r : List Value) → Every vs → Every r → length vs ≤ 1024 → ActKept (f vs r)) → ActKept (taking z s f)
    unfolding taking
    takes z f p = tests (leb z (length s.operands)) (p _ _ (all_take z w.operands) (all_drop z w.operands) few) (halt refl)
      where
        few : length (take z s.operands) ≤ 1024
        few = let h = take_few z 256 s.operands w.few_operands in omega linear

    answers : {r : List Value} (q : ℕ) {x : Answer Value} → Every r → AnswerKept x → ActKept (answer trees s r q x)
    unfolding answer
    answers q rr (old r) = puts q rr (cons r nil)
    answers q rr (made {x = x} f) = make x q rr f
    answers q rr (refused {e = e}) = halt (operation_fault e)

    -- the top one of those taken, the one under it, the third
    abbrev only : {vs : List Value} → Every vs → Throughout test (get_or vs 0 trees.null)
    only rv = all_get_d rv null_kept 0

    abbrev lower : {vs : List Value} → Every vs → Throughout test (get_or vs 1 trees.null)
    lower rv = all_get_d rv null_kept 1

    abbrev lowest : {vs : List Value} → Every vs → Throughout test (get_or vs 2 trees.null)
    lowest rv = all_get_d rv null_kept 2

    grows : {xs : List Value} → Every xs → (z : ℕ) → Every (grown trees xs z)
    unfolding grown
    grows {xs} rs z = all_append rs (all_replicate (z - length xs) _ null_kept)

    defines : (b : Bool) {r : List Value} (f : Frame) (z q : ℕ) {v : Value} → Every r → Throughout test v → ActKept (define trees b s r f z v q)
    unfolding define
    defines true f z q rr rv = go nil rr w.locals (all_set (grows w.globals (suc z)) z rv)
    defines false f z q rr rv = go nil rr (all_set (grows w.locals (suc (f.local_base + z))) (f.local_base + z) rv) w.globals

    pops : (b : Bool) (l : List ℕ) (q : ℕ) → ActKept (pop_scope trees b s l q)
    unfolding pop_scope
    pops true l q = halt refl
    pops false [] q = halt refl
    pops false (z ∷ l) q = go nil w.operands (all_take z w.locals) w.globals

    branches : (b : Option Bool) {r : List Value} (p q : ℕ) → Every r → ActKept (branch trees b s r p q)
    unfolding branch
    branches none p q rr = halt refl
    branches (some false) p q rr = puts p rr nil
    branches (some true) p q rr = puts q rr nil

    callee_kept : (h : Head) → test h ≡ true → CalleeKept (callee_of h)
    callee_kept null t = tt
    callee_kept (num x) t = tt
    callee_kept (bool b) t = tt
    callee_kept (str n) t = tt
    callee_kept (char n) t = tt
    callee_kept arr t = tt
    callee_kept tuple t = tt
    callee_kept (function c) t = t
    callee_kept ok t = tt
    callee_kept error t = tt
    callee_kept err t = tt
    callee_kept (closure c j) t = k.called c j t

    calls : (x : Option Callee) → CalleeKept x → (n q : ℕ) {cs vs r : List Value} → Every cs → Every vs → Every r → ActKept (call trees x cs im vs n r q)
    unfolding call
    calls none t n q rc rv rr = halt refl
    calls (some c) t n q rc rv rr = tests (eqb n (chunk_at im c.chunk).arity) (into t (all_append (all_append (all_replicate c.start _ null_kept) rc) rv) rr) (halt refl)

    propagates : (x : Wrapper) (q : ℕ) {v u : Value} {r : List Value} → Throughout test v → Throughout test u → Every r → ActKept (propagate trees x s v u r q)
    unfolding propagate
    propagates an_ok q rv ru rr = puts q rr (cons ru nil)
    propagates an_err q rv ru rr = out rv rr
    propagates no_wrapper q rv ru rr = puts q rr (cons rv nil)

    captures : (a b : Bool) (f : Frame) (c z q : ℕ) → test (closure c z) ≡ true → ActKept (capture trees a b s f c z q)
    unfolding capture
    captures true b f c z q t = make _ q w.operands (scalar_fine (closure c z) t)
    captures false true f c z q t = halt refl
    captures false false f c z q t =
        make _ q w.operands (record { head = t; few = drop_few (f.local_base + z) 1024 s.locals w.few_locals; parts = all_drop (f.local_base + z) w.locals })

    wrapped : (h : Head) → test h ≡ true → {v : Value} → Throughout test v → Fine (shape h (v ∷ []))
    wrapped h t r = record { head = t; few = let z : 1 ≤ 1024 = omega linear in z; parts = cons r nil }

    built : (h : Head) → test h ≡ true → {vs : List Value} → Every vs → length vs ≤ 1024 → Fine (shape h (reverse vs))
    built h t {vs} rv l = record { head = t; few = subst⁻¹ (λ (m : ℕ). m ≤ 1024) (length-reverse vs) l; parts = all_reverse rv }

    module _ (f : Frame) (i : Instr) where
      performs : (o : OpCode) → ActKept (perform trees im s f i o)
      unfolding perform
      performs Const = option 32 refl _ _ (λ c e. make _ _ w.operands (scalar_fine (constant_head c) (k.constants _ _ c e)))
      performs Add = takes 2 _ (λ vs r rv rr l. answers _ rr (arith_kept add_of k.sums (see (lower rv)) (see (only rv))))
      performs Sub = takes 2 _ (λ vs r rv rr l. answers _ rr (arith_kept sub_of k.differences (see (lower rv)) (see (only rv))))
      performs Mul = takes 2 _ (λ vs r rv rr l. answers _ rr (arith_kept mul_of k.products (see (lower rv)) (see (only rv))))
      performs Div = takes 2 _ (λ vs r rv rr l. answers _ rr (arith_kept div_of k.quotients (see (lower rv)) (see (only rv))))
      performs Negate = takes 1 _ (λ vs r rv rr l. answers _ rr (negate_kept k.negatives (see (only rv))))
      performs Not = takes 1 _ (λ vs r rv rr l. answers _ rr (invert_kept k.bools _))
      performs Eq = takes 2 _ (λ vs r rv rr l. make_bool _ _ rr)
      performs NotEq = takes 2 _ (λ vs r rv rr l. make_bool _ _ rr)
      performs Less = takes 2 _ (λ vs r rv rr l. answers _ rr (compare_kept k.bools less_of _ _))
      performs LessEq = takes 2 _ (λ vs r rv rr l. answers _ rr (compare_kept k.bools less_eq_of _ _))
      performs Greater = takes 2 _ (λ vs r rv rr l. answers _ rr (compare_kept k.bools greater_of _ _))
      performs GreaterEq = takes 2 _ (λ vs r rv rr l. answers _ rr (compare_kept k.bools greater_eq_of _ _))
      performs GetLocal = found 34 refl _ (all_find w.locals (f.local_base + i.a)) (λ v r. puts _ w.operands (cons r nil))
      performs SetLocal = takes 1 _ (λ vs r rv rr l. tests _ (go (cons (only rv) nil) rr (all_set w.locals (f.local_base + i.a) (only rv)) w.globals) (halt refl))
      performs GetGlobal = found 35 refl _ (all_find w.globals i.a) (λ v r. puts _ w.operands (cons r nil))
      performs SetGlobal = takes 1 _ (λ vs r rv rr l. tests _ (go (cons (only rv) nil) rr w.locals (all_set w.globals i.a (only rv))) (halt refl))
      performs DefineLocal = takes 1 _ (λ vs r rv rr l. defines _ f _ _ rr (only rv))
      performs Pop = takes 1 _ (λ vs r rv rr l. puts _ rr nil)
      performs Return = out (all_get_d w.operands null_kept 0) (all_drop 1 w.operands)
      performs PushScope = go nil w.operands w.locals w.globals
      performs PopScope = pops _ _ _
      performs Jump = puts _ w.operands nil
      performs JumpIfFalse = takes 1 _ (λ vs r rv rr l. branches _ _ _ rr)
      performs Loop = tests _ (puts _ w.operands nil) (halt refl)
      performs Call =
          takes (suc i.a) _ (λ vs r rv rr l. let c = see (all_get_d rv null_kept i.a) in
          calls _ (callee_kept _ c.head) _ _ c.parts (all_reverse (all_take i.a rv)) rr)
      performs Ok = takes 1 _ (λ vs r rv rr l. make _ _ rr (wrapped ok k.oks (only rv)))
      performs Err = takes 1 _ (λ vs r rv rr l. make _ _ rr (wrapped err k.errs (only rv)))
      performs Propagate = takes 1 _ (λ vs r rv rr l. propagates _ _ (only rv) (all_get_d (see (only rv)).parts null_kept 0) rr)
      performs Error = takes 1 _ (λ vs r rv rr l. make _ _ rr (wrapped error k.errors (only rv)))
      performs BuildArr = takes i.a _ (λ vs r rv rr l. make _ _ rr (built arr k.arrs rv l))
      performs BuildTuple = takes i.a _ (λ vs r rv rr l. make _ _ rr (built tuple k.tuples rv l))
      performs Index = takes 2 _ (λ vs r rv rr l. answers _ rr (index_kept _ (see (lower rv)) _))
      performs ArrLen = takes 1 _ (λ vs r rv rr l. answers _ rr (arr_len_kept k.lengths _ (see (only rv))))
      performs ArrSet = takes 3 _ (λ vs r rv rr l. answers _ rr (arr_set_kept k.arrs _ (see (lowest rv)) _ _ (only rv)))
      performs BuildClosure = option 32 refl _ _ (λ c e. captures _ _ f c _ _ (k.closures _ _ c _ e))
      performs Cast = takes 1 _ (λ vs r rv rr l. option 30 refl _ _ (λ t e. answers _ rr (cast_kept t (k.casts t) (see (only rv)))))
      performs IsKind = takes 1 _ (λ vs r rv rr l. tests _ (make_bool _ _ rr) (halt refl))

  -- ---- what comes of an act
  -- where a run can stop: its chunk is that of a frame
  pub data StopKept (im : Image) : ℕ → ℕ → ℕ → Type 0 where
    instruction : {n c p : ℕ} → numbered n ≡ true → test (function c) ≡ true → p < length (chunk_at im c).code → StopKept im n c p
    end : {c : ℕ} → test (function c) ≡ true → StopKept im 45 c (length (chunk_at im c).code)

  abbrev pub EndKept : Image → Ending Value ℕ → Type 0
  EndKept im (value n v cs) = Throughout test v
  EndKept im (stop n c p q) = StopKept im n p q

  abbrev pub OutKept : Image → Outcome Value ℕ → Type 0
  OutKept im (next s) = Holds test s
  OutKept im (done e) = EndKept im e

  -- all but the mosts
  record Filled (s : State Value ℕ) : Type 0 where
    operands : Every s.operands
    locals : Every s.locals
    globals : Every s.globals
    frames : All (λ (f : Frame). test (function f.chunk) ≡ true) s.frames

  fitting : (s : State Value ℕ) (vs : List Value) → fits trees s vs ≡ true → Filled s → Holds test s
  unfolding fits
  fitting s vs e w =
      record {
        operands = w.operands;
        locals = w.locals;
        globals = w.globals;
        frames = w.frames;
        few_operands = leb-true (length s.operands) 256 (first _ _ e);
        few_locals = leb-true (length s.locals) 1024 (first _ _ (second (leb (length s.operands) 256) _ e));
      }

  module _ (im : Image) (k : Closed im test) where
    bounded_kept : (b : Bool) (t : State Value ℕ) (vs : List Value) (f : Frame) (p : ℕ) → fits trees t vs ≡ b → Filled t → StopKept im 45 f.chunk p
        → OutKept im (bounded trees b t f p)
    unfolding bounded
    bounded_kept true t vs f p e w z = fitting t vs e w
    bounded_kept false t vs f p e w z = z

    finish_kept : (b : Bool) (t : State Value ℕ) (f : Frame) (fs : List Frame) (v : Value) (p : ℕ) → fits trees t [] ≡ b → Filled t → Throughout test
        v → StopKept im 45 f.chunk p
        → OutKept im (finish_call trees b t f fs v p)
    unfolding finish_call
    finish_kept false t f fs v p e w r z = z
    finish_kept true t f [] v p e w r z = r
    finish_kept true t f (g ∷ gs) v p e w r z = fitting t [] e w

    cut_kept : (b : Bool) (st : List ℕ) (a : ℕ) {ls : List Value} → Every ls → Every (kept_locals b st a ls)
    unfolding kept_locals
    cut_kept true st a rl = all_take (get_or st (length st - suc a) 0) rl
    cut_kept false st a rl = rl

    module _ (s : State Value ℕ) (w : Holds test s) (f : Frame) (fs : List Frame) (t : test (function f.chunk) ≡ true) (ts : All (λ (g : Frame).
        test (function g.chunk) ≡ true) fs) where
      left_kept : {v : Value} {r : List Value} (n : ℕ) → Throughout test v → Every r → Filled (left trees s f fs v r n)
      left_kept n rv rr = record {
        operands = cons rv rr;
        locals = cut_kept (ltb f.scope_base (length s.scope_starts)) s.scope_starts f.scope_base
            w.locals;
        globals = w.globals;
        frames = ts;
      }

      module _ (l : f.position < length (chunk_at im f.chunk).code) where
        carry_kept : {a : Act Value ℕ} → ActKept a → OutKept im (carry trees s f fs a)
        unfolding carry
        carry_kept (go {vs = vs} rv rr rl rg) =
            bounded_kept _ _ vs f f.position refl (record { operands = all_append rv rr; locals = rl; globals = rg; frames = cons t ts }) (instruction refl t l)
        carry_kept (halt n) = instruction n t l
        carry_kept (into c ro rr) =
            bounded_kept _ _ [] f f.position refl (record {
              operands = rr;
              locals = all_append w.locals ro;
              globals = w.globals;
              frames = cons
                  c (cons t ts);
            }) (instruction refl t l)
        carry_kept (out {v = v} rv rr) = finish_kept _ _ f fs v f.position refl (left_kept (suc s.count) rv rr) rv (instruction refl t l)

        begin_kept : (x : Option Instr) → OutKept im (begin trees im s f fs x)
        unfolding begin
        begin_kept none = instruction refl t l
        begin_kept (some i) = carry_kept (performs im k s w f i i.op)

        budgeted_kept : (b : Bool) → OutKept im (budgeted trees b im s f fs)
        unfolding budgeted
        budgeted_kept true = begin_kept _
        budgeted_kept false = instruction refl t l

      within_kept : (budget : ℕ) (b : Bool) → ltb f.position (length (chunk_at im f.chunk).code) ≡ b → OutKept im (within trees b im budget s f fs)
      unfolding within
      within_kept budget true e = budgeted_kept (ltb-true _ _ e) (ltb s.count budget)
      within_kept budget false e =
          finish_kept _ _ f fs _ (length (chunk_at im f.chunk).code) refl (left_kept s.count (null_kept im k s w) w.operands) (null_kept im k s w) (end t)

    in_kept : (budget : ℕ) (s : State Value ℕ) (w : Holds test s) {fs : List Frame} → All (λ (g : Frame). test (function g.chunk) ≡ true) fs →
        OutKept im (step_in trees im budget s fs)
    unfolding step_in
    in_kept budget s w nil = null_kept im k s w
    in_kept budget s w (cons {x = f} {xs = fs} t ts) = within_kept s w f fs t ts budget _ refl

    pub step_kept : (budget : ℕ) (s : State Value ℕ) → Holds test s → OutKept im (step trees im budget s)
    unfolding step
    step_kept budget s w = in_kept budget s w w.frames

    -- ---- runs
    begins : Holds test (initial trees)
    begins = record {
      operands = nil;
      locals = nil;
      globals = nil;
      frames = cons k.top nil;
      few_operands = let z : 0 ≤ 256 = omega linear in z;
      few_locals = let z : 0 ≤ 1024 = omega linear in z;
    }

    module _ (budget : ℕ) (r : Run Value ℕ) (R : IsRun trees im budget (initial trees) r) where
      state_kept : (j : ℕ) → j ≤ R.last → Holds test (at trees r.states j)
      state_kept zero l = subst⁻¹ (Holds test) R.first begins
      state_kept (suc j) l = subst (OutKept im) (R.follows j (omega linear)) (step_kept budget _ (state_kept j (omega linear)))

      pub end_kept : EndKept im r.ending
      end_kept = subst (OutKept im) R.ends (step_kept budget _ (state_kept R.last (omega linear)))

      pub run_kept : RunKeeps test r
      run_kept =
          record {
            states = λ j l. state_kept j (let e = R.size in omega (linear, e));
            result = λ n v cs e. subst (EndKept im) e end_kept;
          }

pub values_kept : ValuesKept
values_kept im test k budget r R = run_kept test im k budget r R
