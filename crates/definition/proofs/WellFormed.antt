-- Every value of a run of a loaded image is well formed: its constants are, by what every load keeps, and no operation makes another.
use mathlib.Core.Path.{◌≡◌, refl, ap, subst, subst⁻¹}
use mathlib.Core.Bool.{Bool, true, false, cond, ◌||◌}
use mathlib.Core.List.{List, [], ◌∷◌}
use mathlib.Core.Option.{Option, none, some}
use Prim.Native.Nat.{ℕ, zero, suc, ◌-◌, ◌*◌, ◌^◌, ◌≤◌, ◌<◌}
use native.Mathlib.Omega.{arith}
use native.Mathlib.Nat.{mod-lt, pow-suc, not-suc-le-zero}
use borrow.Author.Tests.{ltb-true, ltb-false, leb-true, eqb-true, lt-ltb, le-leb}
use lib.Dec.{T, leb, ltb, eqb, lit≤}
use lib.IntN.{ℤ, pos, negsuc, neg_ℤ, nat_abs}
use lib.Signed.{quot_z}
use lib.Pow.{pow_pos}
use lib.ListN.{length, get_or}
use lib.Ieee as Ieee
use lib.Ieee.{Format, binary32, binary64, fits, up, down}
use lib.Ieee.Fits.{nan-fits, inf-fits, round-fits, neg-fits, add-fits, sub-fits, mul-fits, div-fits, of_int-fits, fits_widens}
use lib.Ieee.Bits.{is_true, of_bits-fits}
use Rattle.std.proofs.Common.{Result, Ok, Err}
use Rattle.float_bits.specs.Nearest.{nearest_binary32}
use Rattle.numbers.specs.declared.Number.{Number}
use Rattle.numbers.specs.declared.Number.TheVariants.{Int}
use Rattle.numbers.specs.declared.NumberFault.{NumberFault}
use Rattle.numbers.specs.declared.NumberFault.TheVariants.{ZeroDivisor, WrongKind, InvalidCast}
use Rattle.numbers.specs.declared.IntKind.{IntKind}
use Rattle.numbers.specs.declared.IntKind.TheVariants.{I64, U64, I32, U32, U8, I8, U16, I16}
use Rattle.numbers.specs.declared.CastTarget.{CastTarget}
use Rattle.numbers.specs.declared.CastTarget.TheVariants.{ToInteger, ToFloat, ToSFloat}
use Rattle.numbers.specs.Kinds.{int_kind_code, is_signed, bits_of, in_range, as_kind, low_bits, twos_complement, wrapping}
use Rattle.numbers.specs.Scalars.{Scalar, integer, double, single, ScalarPair, integers, doubles, singles, mixed, scalar_of, same_kind}
use Rattle.numbers.specs.Answers.{pick}
use Rattle.numbers.specs.Arithmetic.{checked, checked_div, arithmetic, negate_scalar, negate_of}
use Rattle.numbers.proofs.Ranges.{no_negative}
use Rattle.numbers.specs.Casts.{truncated, as_float, cast_integer, cast_to, cast_of}
use Rattle.definition.specs.Image.{Constant, Chunk, no_chunk, Image, chunk_at}
use Rattle.definition.specs.Lines.{listed, widths, width_of}
use Rattle.definition.specs.Loaded.{no_constant, ConstantKept, ImageKept}
use Rattle.definition.specs.Value.{Head, null, arr}
use Rattle.definition.specs.Value.{Value as Tree}
use Rattle.definition.specs.Shape.{shape}
use Rattle.definition.specs.Operation.{Answer, got, new, bad}
use Rattle.definition.specs.Arrays.{arr_len}
use Rattle.definition.specs.Constants.{heads, constant_head, constant_at, function_at}
use Rattle.definition.specs.KeptValues.{Closed, scalar_fits, well_formed, ValuesWellFormed}
use Rattle.definition.proofs.Judged.{cond_elim}
use Rattle.definition.proofs.Keeps.{All, all_at, loads_kept}
use Rattle.definition.proofs.KeptValues.{run_kept}

-- ---- what an operation on numbers answers
abbrev Fits : Result Number NumberFault → Type 0
Fits (Ok x) = scalar_fits (scalar_of x) ≡ true
Fits (Err fault) = Unit {0}

picks : (b : Bool) (x y : Result Number NumberFault) → (b ≡ true → Fits x) → Fits y → Fits (pick b x y)
picks true x y f q = f refl
picks false x y f q = q

as_kind_lem : (k : IntKind) (z : ℤ) → in_range k z ≡ true → scalar_fits (scalar_of (as_kind k z)) ≡ true
as_kind_lem I64 z e = e
as_kind_lem U64 (pos n) e = e
as_kind_lem U64 (negsuc n) e = no_negative U64 n refl e
as_kind_lem I32 z e = e
as_kind_lem U32 (pos n) e = e
as_kind_lem U32 (negsuc n) e = no_negative U32 n refl e
as_kind_lem U8 (pos n) e = e
as_kind_lem U8 (negsuc n) e = no_negative U8 n refl e
as_kind_lem I8 z e = e
as_kind_lem U16 (pos n) e = e
as_kind_lem U16 (negsuc n) e = no_negative U16 n refl e
as_kind_lem I16 z e = e

checked_fits : (k : IntKind) (z : ℤ) → Fits (checked k z)
unfolding checked
checked_fits k z = picks (in_range k z) (Ok (as_kind k z)) _ (as_kind_lem k z) tt

div_checked : (k : IntKind) (a b : ℤ) → Fits (checked_div k a b)
unfolding checked_div
div_checked k a b = picks (eqb (nat_abs b) 0) (Err ZeroDivisor) (checked k (quot_z a b)) (λ e. tt) (checked_fits k (quot_z a b))

arithmetic_fits : (f : IntKind → ℤ → ℤ → Result Number NumberFault) (g : Format → Ieee.Float → Ieee.Float → Ieee.Float) → ((k : IntKind) (a b : ℤ) → Fits (f k a
    b)) → ((d : Format) (x y : Ieee.Float) → T (fits d (g d x y)))
    → (p : ScalarPair) → Fits (arithmetic f g p)
arithmetic_fits f g h i (integers k a b) = h k a b
arithmetic_fits f g h i (doubles a b) = is_true (fits binary64 (g binary64 a b)) (i binary64 a b)
arithmetic_fits f g h i (singles a b) = is_true (fits binary32 (g binary32 a b)) (i binary32 a b)
arithmetic_fits f g h i mixed = tt

-- ---- wrapping
-- a number of h bits and a sign
abbrev signed_in : ℕ → ℤ → Bool
signed_in h (pos n) = leb n (2 ^ h - 1)
signed_in h (negsuc n) = leb (suc n) (2 ^ h)

twos_in : (h w : ℕ) → w < 2 ^ suc h → signed_in h (twos_complement h w) ≡ true
twos_in h w l =
    let t : 2 ^ suc h ≡ 2 ^ h * 2 = pow-suc 2 h in
    cond_elim (λ (z : ℤ). signed_in h z ≡ true) (ltb w (2 ^ h))
    (λ e. let k = ltb-true w (2 ^ h) e in le-leb w (2 ^ h - 1) (omega arith))
    (λ e. let k = ltb-false w (2 ^ h) e in le-leb (suc (2 ^ suc h - suc w)) (2 ^ h) (omega arith))

range_signed : (k : IntKind) (z : ℤ) → is_signed k ≡ true → in_range k z ≡ signed_in (bits_of k - 1) z
range_signed k (pos n) e = ap (λ (b : Bool). leb n (cond b (2 ^ (bits_of k - 1)) (2 ^ bits_of k) - 1)) e
range_signed k (negsuc n) e = ap (λ (b : Bool). leb (suc n) (cond b (2 ^ (bits_of k - 1)) 0)) e

-- a word of the kind's width, as a signed number
signed_fits : (k : IntKind) (w : ℕ) → is_signed k ≡ true → w < 2 ^ suc (bits_of k - 1) → in_range k (twos_complement (bits_of k - 1) w) ≡ true
signed_fits k w e l = rw (range_signed k (twos_complement (bits_of k - 1) w) e) (twos_in (bits_of k - 1) w l)

low_lt : (b : ℕ) (z : ℤ) → low_bits b z < 2 ^ b
low_lt b (pos n) = mod-lt n (pow_pos b)
low_lt b (negsuc n) = let p : 0 < 2 ^ b = pow_pos b in omega arith

-- the low 64 bits, as a signed number
wrapped_fits : (z : ℤ) → in_range I64 (wrapping I64 z) ≡ true
unfolding wrapping
wrapped_fits z = signed_fits I64 (low_bits 64 z) refl (low_lt 64 z)

as_test : {b : Bool} → b ≡ true → T b
as_test e = subst⁻¹ T e tt

negate_fits : (x : Scalar) → scalar_fits x ≡ true → Fits (negate_scalar x)
negate_fits (integer k z) t = picks (is_signed k) (checked k (neg_ℤ z)) (Err WrongKind) (λ e. checked_fits k (neg_ℤ z)) tt
negate_fits (double x) t = is_true (fits binary64 (Ieee.neg x)) (neg-fits binary64 x (as_test t))
negate_fits (single x) t = is_true (fits binary32 (Ieee.neg x)) (neg-fits binary32 x (as_test t))

negated : (a : Number) → scalar_fits (scalar_of a) ≡ true → Fits (negate_of a)
unfolding negate_of
negated a t = negate_fits (scalar_of a) t

cast_integer_fits : (k : IntKind) (z : ℤ) → Fits (cast_integer k z)
unfolding cast_integer
cast_integer_fits k z = picks (eqb (int_kind_code k) 1) (Ok (Int (wrapping I64 z))) (pick (in_range k z) (Ok (as_kind k z)) (Err InvalidCast)) (λ e.
    wrapped_fits z) (picks (in_range k z) (Ok (as_kind k z)) _ (as_kind_lem k z) tt)

as_float_fits : (x : Scalar) → scalar_fits x ≡ true → T (fits binary64 (as_float x))
as_float_fits (integer k z) t = of_int-fits binary64 z
as_float_fits (double x) t = as_test t
as_float_fits (single x) t = fits_widens x (as_test t)

nearest_fits : (x : Ieee.Float) → T (fits binary32 (nearest_binary32 x))
unfolding nearest_binary32
nearest_fits Ieee.nan = nan-fits binary32
nearest_fits (Ieee.inf s) = inf-fits binary32 s
nearest_fits (Ieee.fin s m e) = round-fits binary32 s (m * up e) (down e)

cast_to_fits : (t : CastTarget) (z : ℤ) (x : Ieee.Float) → T (fits binary64 x) → Fits (cast_to t z x)
cast_to_fits (ToInteger k) z x e = cast_integer_fits k z
cast_to_fits ToFloat z x e = is_true (fits binary64 x) e
cast_to_fits ToSFloat z x e = is_true (fits binary32 (nearest_binary32 x)) (nearest_fits x)

cast_fits : (t : CastTarget) (a : Number) → scalar_fits (scalar_of a) ≡ true → Fits (cast_of t a)
unfolding cast_of
cast_fits t a h = cast_to_fits t (truncated (scalar_of a)) (as_float (scalar_of a)) (as_float_fits (scalar_of a) h)

-- ---- constants
-- what is below n is at most m
at_most : (p n m : ℕ) → p < n → n ≤ suc m → leb p m ≡ true
at_most p n m l e = le-leb p m (omega arith)

listed_below : (k : ℕ) → listed k ≡ true → k < 21
unfolding listed
listed_below k e = by (leb k 13) refl e
  where
    by : (b : Bool) → leb k 13 ≡ b → (b || eqb k 20) ≡ true → k < 21
    by true h q = let l = leb-true k 13 h in omega arith
    by false h q = let l = eqb-true k 20 q in omega arith

infixr 20 ◌then◌
◌then◌ : {A B : Type 0} → A → B → A × B
x then y = (x, y)

module _ (im : Image) (own : ℕ) where
  abbrev KeptHere : Constant → Type 0
  KeptHere = ConstantKept (length im.texts) (length im.chunks) own

  abbrev Formed : ℕ → ℕ → Head → Type 0
  Formed p kind h = KeptHere (record { kind = kind; payload = p }) → well_formed im h ≡ true

  by_kind : (p : ℕ) → All (Formed p) 0 (heads p)
  unfolding width_of widths
  by_kind p =
      (λ q. refl)
      then (λ q. signed_fits I64 p refl q.payload_fits)
      then (λ q. at_most p _ _ q.payload_fits (lit≤ tt))
      then (λ q. signed_fits I32 p refl q.payload_fits)
      then (λ q. at_most p _ _ q.payload_fits (lit≤ tt))
      then (λ q. is_true _ (of_bits-fits binary64 p))
      then (λ q. is_true _ (of_bits-fits binary32 p))
      then (λ q. refl)
      then (λ q. lt-ltb p (length im.texts) (q.str refl))
      then (λ q. q.char refl)
      then (λ q. at_most p _ _ q.payload_fits (lit≤ tt))
      then (λ q. signed_fits I8 p refl q.payload_fits)
      then (λ q. at_most p _ _ q.payload_fits (lit≤ tt))
      then (λ q. signed_fits I16 p refl q.payload_fits)
      then (λ q. refl)
      then (λ q. refl)
      then (λ q. refl)
      then (λ q. refl)
      then (λ q. refl)
      then (λ q. refl)
      then (λ q. lt-ltb p (length im.chunks) (q.function_there refl))
      then tt

  constant_formed : (c : Constant) → KeptHere c → well_formed im (constant_head c) ≡ true
  unfolding constant_head
  constant_formed c q = all_at (Formed c.payload) 0 (heads c.payload) c.kind null (by_kind c.payload) (listed_below c.kind q.kind_listed)
      c.kind (omega arith) q

-- ---- the length of an Arr
abbrev AnswerFits : Answer Tree → Type 0
AnswerFits (got v) = Unit {0}
AnswerFits (new x) = well_formed (record { texts = []; chunks = [] }) x.head ≡ true
AnswerFits (bad e) = Unit {0}

length_fits : (vs : List Tree) → length vs ≤ 1024 → AnswerFits (arr_len (shape arr vs))
unfolding arr_len
length_fits vs l = at_most (length vs) 1025 _ (omega arith) (lit≤ tt)

-- ---- all constants of an image
module _ (im : Image) (kept : ImageKept im) where
  -- a constant that is there is well formed, and a Function one names a chunk
  abbrev Given : Option Constant → Type 0
  Given none = Unit {0}
  Given (some c) = well_formed im (constant_head c) ≡ true

  abbrev Named : Option ℕ → Type 0
  Named none = Unit {0}
  Named (some d) = ltb d (length im.chunks) ≡ true

  abbrev AllKept : ℕ → List Constant → Type 0
  AllKept own l = (j : ℕ) → j < length l → KeptHere im own (get_or l j no_constant)

  given : (own : ℕ) (l : List Constant) (n : ℕ) → AllKept own l → Given (constant_at l n)
  unfolding constant_at
  given own [] n f = tt
  given own (c ∷ cs) zero f = constant_formed im own c (f 0 (omega arith))
  given own (c ∷ cs) (suc n) f = given own cs n (λ j l. f (suc j) (omega arith))

  named_one : (own : ℕ) (b : Bool) (c : Constant) → eqb c.kind 20 ≡ b → KeptHere im own c → Named (function_at (c ∷ []) 0)
  unfolding function_at
  named_one own true c e q = simp e (lt-ltb c.payload (length im.chunks) (q.function_there (eqb-true c.kind 20 e)))
  named_one own false c e q = simp e tt

  named : (own : ℕ) (l : List Constant) (n : ℕ) → AllKept own l → Named (function_at l n)
  unfolding function_at
  named own [] n f = tt
  named own (c ∷ cs) zero f = named_one own (eqb c.kind 20) c refl (f 0 (omega arith))
  named own (c ∷ cs) (suc n) f = named own cs n (λ j l. f (suc j) (omega arith))

  -- a chunk that is not there has no constants
  everywhere : (Q : List Constant → Type 0) (cs : List Chunk) (c : ℕ) → ((j : ℕ) → j < length cs → Q (get_or cs j no_chunk).constants) → Q [] → Q (get_or cs c no_chunk).constants
  everywhere Q [] c f z = z
  everywhere Q (x ∷ xs) zero f z = f 0 (omega arith)
  everywhere Q (x ∷ xs) (suc c) f z = everywhere Q xs c (λ j l. f (suc j) (omega arith)) z

  constants_given : (c n : ℕ) → Given (constant_at (chunk_at im c).constants n)
  unfolding chunk_at
  constants_given c n = everywhere (λ (l : List Constant). Given (constant_at l n)) im.chunks c (λ j l. given j _ n (kept.chunks_kept j l).constants)
      (given 0 [] n (λ j l. absurd (not-suc-le-zero l)))

  functions_named : (c n : ℕ) → Named (function_at (chunk_at im c).constants n)
  unfolding chunk_at
  functions_named c n = everywhere (λ (l : List Constant). Named (function_at l n)) im.chunks c (λ j l. named j _ n (kept.chunks_kept j l).constants)
      (named 0 [] n (λ j l. absurd (not-suc-le-zero l)))

  pub closed : Closed im (well_formed im)
  closed =
      record {
        top = lt-ltb 0 (length im.chunks) kept.some_chunk;
        constants = λ c n k e. subst Given e (constants_given c n);
        closures = λ c n d start e. subst Named e (functions_named c n);
        called = λ c start e. e;
        nulls = refl;
        bools = λ b. refl;
        lengths = λ vs x l e. subst AnswerFits e (length_fits vs l);
        sums = λ a b x s t e. subst Fits e (arithmetic_fits _ _ (λ k y z. checked_fits k _) add-fits (same_kind (scalar_of a) (scalar_of b)));
        differences = λ a b x s t e. subst Fits e (arithmetic_fits _ _ (λ k y z. checked_fits k _) sub-fits (same_kind (scalar_of a) (scalar_of b)));
        products = λ a b x s t e. subst Fits e (arithmetic_fits _ _ (λ k y z. checked_fits k _) mul-fits (same_kind (scalar_of a) (scalar_of b)));
        quotients = λ a b x s t e. subst Fits e (arithmetic_fits _ _ div_checked div-fits (same_kind (scalar_of a) (scalar_of b)));
        negatives = λ a x t e. subst Fits e (negated a t);
        casts = λ t a x h e. subst Fits e (cast_fits t a h);
        arrs = refl;
        tuples = refl;
        oks = refl;
        errors = refl;
        errs = refl;
      }

pub values_well_formed : ValuesWellFormed
values_well_formed bytes im e budget r R = run_kept (well_formed im) im (closed im (loads_kept bytes im e)) budget r R
