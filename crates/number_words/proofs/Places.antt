-- A kind's numbers by their places, the least first: differences of naturals, what is in range, and the word at a place. For every kind of at most 32
-- bits. Assumes nothing.
use mathlib.Core.Path.{◌≡◌, refl, sym, ap, subst, ◌∙◌}
use mathlib.Core.Bool.{Bool, true, false, not, cond, beq}
use mathlib.Core.List.{List, [], ◌∷◌}
use mathlib.Core.Logic.{◌⊎◌, inl, inr, ⊎_elim}
use Prim.Native.Nat.{ℕ, zero, suc, ◌+◌, ◌-◌, ◌*◌, ◌%◌, ◌^◌, ◌<◌, ◌≤◌}
use native.Mathlib.Omega.{arith}
use native.Mathlib.Nat.{mod-eq_of_lt, pow-suc, mul-le-mul, lt_of_le_of_lt}
use lib.Dec.{T, eqb, ltb, lit<, ltb→lt, nltb→le}
use lib.Ieee.{unlike}
use lib.IntN.{ℤ, pos, negsuc, neg_ℤ, sub_ℕ, ◌+ℤ◌, ◌-ℤ◌, ◌*ℤ◌}
use lib.Signed.{lt_z}
use borrow.Author.Tests.{lt-ltb, le-ltb, le-leb, lt-leb, ne_eqb, eqb-true}
use Rattle.std.proofs.Common.{Option, Some, None, Ok, Err, rules, unwrap_or}
use Rattle.std.specs.Option.{SomeIff}
use Rattle.std.specs.Ordering.{nat_cmp, MatchOrdering}
use Rattle.std.specs.Cmp.{ranks}
use Rattle.std.specs.declared.cmp.Ordering.{Ordering}
use Rattle.std.specs.declared.cmp.Ordering.TheVariants.{Less, Equal, Greater}
use Rattle.numbers.specs.declared.Number.TheVariants.{UInt}
use Rattle.numbers.specs.declared.NumberFault.TheVariants.{Overflow}
use Rattle.numbers.specs.declared.IntKind.{IntKind}
use Rattle.numbers.specs.declared.IntKind.TheVariants.{I64, U64, I32, U32, U8, I8, U16, I16}
use Rattle.numbers.specs.Kinds.{int_kind_code, least_magnitude, greatest, in_range, as_kind, twos_complement, wrapping}
use Rattle.numbers.proofs.Sums.{product, sum_other, sum_other'}
use Rattle.numbers.specs.Answers.{pick}
use Rattle.numbers.specs.Arithmetic.{checked}
use Rattle.number_words.specs.declared.NarrowKind.{NarrowKind}
use Rattle.numbers.specs.Compare.{integer_order}
use Rattle.numbers.proofs.Ranges.{in_range_neg, beyond}
use Rattle.number_comparison.proofs.Orders.{order_less, order_greater, order_equal}
use Rattle.number_words.specs.Words.{numbers_of, narrow_kinds, kind_among, narrow_kind, turn, signed, wide_answer, IsOf}

-- ---- by the test, what the difference of two naturals is
sub_ind : (a b : ℕ) (P : ℤ → Type 0) → (a < b → P (negsuc (b - suc a))) → (b ≤ a → P (pos (a - b))) → P (sub_ℕ a b)
sub_ind a b P f g = go (ltb a b) (ltb→lt a b) (nltb→le a b)
  where
    go : (t : Bool) → (T t → a < b) → (T (not t) → b ≤ a) → P (cond t (negsuc (b - suc a)) (pos (a - b)))
    go true x y = f (x tt)
    go false x y = g (y tt)

-- ---- the kind of a code
pub no_kind : {code : ℕ} → (code ≡ 3 → ⊥) → (code ≡ 4 → ⊥) → (code ≡ 10 → ⊥) → (code ≡ 11 → ⊥) → (code ≡ 12 → ⊥) → (code ≡ 13 → ⊥) → None ≡ narrow_kind code
unfolding narrow_kind
no_kind {code} a b c d e f = simp (ne_eqb code 3 a, ne_eqb code 4 b, ne_eqb code 10 c, ne_eqb code 11 d, ne_eqb code 12 e, ne_eqb code 13 f)

-- a kind that is found is the one of the code
abbrev pub KindOf : ℕ → NarrowKind → Type 0
KindOf code n = (k : IntKind) × (int_kind_code k ≡ code) × IsOf k n

abbrev Narrow : List IntKind → Type 0
Narrow [] = Unit {0}
Narrow (k ∷ ks) = (((least_magnitude k ≡ 0) ⊎ (least_magnitude k + least_magnitude k ≡ least_magnitude k + suc (greatest k))) × (least_magnitude k + suc
    (greatest k) ≤ 4294967296)) × Narrow ks

among : (ks : List IntKind) (code : ℕ) {n : NarrowKind} → Narrow ks → kind_among ks code ≡ Some n → KindOf code n
among [] code l e = let z : ⊥ = search rules in absurd z
among (k ∷ ks) code {n} l e = go (among ks code l.1) (eqb code (int_kind_code k)) (eqb-true code (int_kind_code k)) e
  where
    this : IsOf k (numbers_of k)
    this = record { negatives = refl; numbers = refl; balanced = l.0.0; few = l.0.1 }

    go : (kind_among ks code ≡ Some n → KindOf code n) → (t : Bool) → (t ≡ true → code ≡ int_kind_code k) → cond t (Some (numbers_of k)) (kind_among ks code) ≡ Some n
        → KindOf code n
    go g true c e = (k, sym (c refl), subst (IsOf k) (ap (λ (o : Option NarrowKind). unwrap_or o (numbers_of k)) e) this)
    go g false c e = g e

pub of_code : (code : ℕ) {n : NarrowKind} → narrow_kind code ≡ Some n → KindOf code n
unfolding narrow_kind
of_code code l = among narrow_kinds code (
  (inr refl, omega arith),
  (
    (inl refl, omega arith),
    (
      (inl refl, omega arith),
      (
        (inr refl, omega arith),
        (
          (
            inl
                refl,
            omega arith,
          ),
          ((inr refl, omega arith), tt),
        ),
      ),
    ),
  ),
) l

-- ---- the difference of two naturals
sub_up : (a b c : ℕ) → a ≡ b + c → sub_ℕ a b ≡ pos c
sub_up a b c e = let h : b ≤ a = omega arith in let i : a - b ≡ c = omega arith in ap (λ (t : Bool). cond t (negsuc (b - suc a)) (pos (a - b))) (le-ltb a b h) ∙ ap pos i

sub_down : (a b c : ℕ) → b ≡ a + suc c → sub_ℕ a b ≡ negsuc c
sub_down a b c e = let h : a < b = omega arith in let i : b - suc a ≡ c = omega arith in ap (λ (t : Bool). cond t (negsuc (b - suc a)) (pos (a - b))) (lt-ltb a b h) ∙ ap negsuc i

pub sub_same : (a b c d : ℕ) → a + d ≡ c + b → sub_ℕ a b ≡ sub_ℕ c d
sub_same a b c d e = sub_ind a b (λ (z : ℤ). z ≡ sub_ℕ c d) (λ l. sym (sub_down c d (b - suc a) (omega arith))) (λ l. sym (sub_up c d (a - b) (omega arith)))

sum : (x b y c : ℕ) → sub_ℕ x b +ℤ sub_ℕ y c ≡ sub_ℕ (x + y) (b + c)
sum x b y c =
    sub_ind x b (λ (z : ℤ). z +ℤ sub_ℕ y c ≡ sub_ℕ (x + y) (b + c))
    (λ l.
    sub_ind y c (λ (w : ℤ). negsuc (b - suc x) +ℤ w ≡ sub_ℕ (x + y) (b + c))
    (λ m. sym (sub_down (x + y) (b + c) (suc (b - suc x + (c - suc y))) (omega arith)))
    (λ m. sub_same (y - c) (suc (b - suc x)) (x + y) (b + c) (omega arith)))
    (λ l.
    sub_ind y c (λ (w : ℤ). pos (x - b) +ℤ w ≡ sub_ℕ (x + y) (b + c))
    (λ m. sub_same (x - b) (suc (c - suc y)) (x + y) (b + c) (omega arith))
    (λ m. sym (sub_up (x + y) (b + c) (x - b + (y - c)) (omega arith))))

sub_neg : (y b : ℕ) → neg_ℤ (sub_ℕ y b) ≡ sub_ℕ b y
sub_neg y b = sub_ind y b (λ (z : ℤ). neg_ℤ z ≡ sub_ℕ b y) (λ l. sym (sub_up b y (suc (b - suc y)) (omega arith))) (λ l. go (y - b) refl l)
  where
    go : (c : ℕ) → y - b ≡ c → b ≤ y → neg_ℤ (pos c) ≡ sub_ℕ b y
    go zero e l = sym (sub_up b y 0 (omega arith))
    go (suc c) e l = sym (sub_down b y c (omega arith))

difference : (x b y c : ℕ) → sub_ℕ x b -ℤ sub_ℕ y c ≡ sub_ℕ (x + c) (b + y)
difference x b y c = ap (λ (z : ℤ). sub_ℕ x b +ℤ z) (sub_neg y c) ∙ sum x b c y

-- ---- the number of a word
signed_value : (h p : ℕ) (n : NarrowKind) → n.negatives ≡ 2 ^ h → n.numbers ≡ 2 ^ h + 2 ^ h → p < n.numbers → twos_complement h (p % 2 ^ suc h) ≡ sub_ℕ (turn n p) n.negatives
signed_value h p n e m l =
    let t : 2 ^ suc h ≡ 2 ^ h * 2 = pow-suc 2 h in
    let o : n.numbers - n.negatives ≡ 2 ^ h = omega arith in
    ap (twos_complement h) (mod-eq_of_lt (omega arith)) ∙ go (ltb p (2 ^ h)) (ltb→lt p (2 ^ h)) (nltb→le p (2 ^ h)) ∙ sym (ap (λ (c : ℕ). sub_ℕ (cond
    (ltb p c) (p + n.negatives) (p - c)) n.negatives) o)
  where
    go : (t : Bool) → (T t → p < 2 ^ h) → (T (not t) → 2 ^ h ≤ p) → cond t (pos p) (negsuc (2 ^ suc h - suc p)) ≡ sub_ℕ (cond t (p + n.negatives) (p - 2 ^ h)) n.negatives
    go true x y = sym (sub_up (p + n.negatives) n.negatives p (omega arith))
    go false x y = let g : 2 ^ h ≤ p = y tt in let t : 2 ^ suc h ≡ 2 ^ h * 2 = pow-suc 2 h in sym (sub_down (p - 2 ^ h) n.negatives (2 ^ suc h - suc p) (omega arith))

unsigned_value : (b p : ℕ) (n : NarrowKind) → n.negatives ≡ 0 → n.numbers ≡ 2 ^ b → p < n.numbers → pos (p % 2 ^ b) ≡ sub_ℕ (turn n p) n.negatives
unsigned_value b p n e m l =
    let h : p < n.numbers - n.negatives = omega arith in
    ap pos (mod-eq_of_lt (omega arith))
    ∙ sym (ap (λ (t : Bool). sub_ℕ (cond t (p + n.negatives) (p - (n.numbers - n.negatives))) n.negatives) (lt-ltb p (n.numbers - n.negatives)
    h) ∙ sub_up (p + n.negatives) n.negatives p (omega arith))

pub value_at : (k : IntKind) (n : NarrowKind) (p : ℕ) → IsOf k n → p < n.numbers → wrapping k (pos p) ≡ sub_ℕ (turn n p) n.negatives
unfolding wrapping
value_at I64 n p i l = let z : ⊥ = omega (arith, i.numbers, i.few) in absurd z
value_at U64 n p i l = let z : ⊥ = omega (arith, i.numbers, i.few) in absurd z
value_at I32 n p i l = signed_value 31 p n i.negatives i.numbers l
value_at U32 n p i l = unsigned_value 32 p n i.negatives i.numbers l
value_at U8 n p i l = unsigned_value 8 p n i.negatives i.numbers l
value_at I8 n p i l = signed_value 7 p n i.negatives i.numbers l
value_at U16 n p i l = unsigned_value 16 p n i.negatives i.numbers l
value_at I16 n p i l = signed_value 15 p n i.negatives i.numbers l

-- ---- the range
module _ (k : IntKind) (n : NarrowKind) (i : IsOf k n) where
  in_range_lem : (Z : ℕ) → Z < n.numbers → in_range k (sub_ℕ Z n.negatives) ≡ true
  in_range_lem Z l =
      sub_ind Z n.negatives (λ (z : ℤ). in_range k z ≡ true)
      (λ g. le-leb (suc (n.negatives - suc Z)) (least_magnitude k) (omega (arith, i.negatives)))
      (λ g. le-leb (Z - n.negatives) (greatest k) (omega (arith, i.negatives, i.numbers)))

  below_range : (S c : ℕ) → S + n.negatives < c → in_range k (sub_ℕ S c) ≡ false
  below_range S c l =
      sub_ind S c (λ (z : ℤ). in_range k z ≡ false)
      (λ g. lt-leb (suc (c - suc S)) (least_magnitude k) (omega (arith, i.negatives)))
      (λ g. let z : ⊥ = omega arith in absurd z)

  above_range : (S c : ℕ) → c + n.numbers ≤ S + n.negatives → in_range k (sub_ℕ S c) ≡ false
  above_range S c l =
      sub_ind S c (λ (z : ℤ). in_range k z ≡ false)
      (λ g. let z : ⊥ = omega (arith, i.negatives, i.numbers) in absurd z)
      (λ g. lt-leb (S - c) (greatest k) (omega (arith, i.negatives, i.numbers)))

  -- turned twice, a place is itself
  pub turned_back : (Z : ℕ) → Z < n.numbers → turn n (turn n Z) ≡ Z
  turned_back Z l = go (ltb Z (n.numbers - n.negatives)) (ltb→lt Z (n.numbers - n.negatives)) (nltb→le Z (n.numbers - n.negatives))
    where
      other : (w : ℕ) → n.numbers - n.negatives ≤ w → w - (n.numbers - n.negatives) ≡ Z → turn n w ≡ Z
      other w h e = ap (λ (t : Bool). cond t (w + n.negatives) (w - (n.numbers - n.negatives))) (le-ltb w (n.numbers - n.negatives) h) ∙ e

      this : (w : ℕ) → w < n.numbers - n.negatives → w + n.negatives ≡ Z → turn n w ≡ Z
      this w h e = ap (λ (t : Bool). cond t (w + n.negatives) (w - (n.numbers - n.negatives))) (lt-ltb w (n.numbers - n.negatives) h) ∙ e

      up : Z < n.numbers - n.negatives → turn n (Z + n.negatives) ≡ Z
      up g = ⊎_elim (λ e. this (Z + n.negatives) (omega arith) (omega arith)) (λ e. other (Z + n.negatives) (omega arith) (omega arith)) i.balanced

      down : n.numbers - n.negatives ≤ Z → turn n (Z - (n.numbers - n.negatives)) ≡ Z
      down g = ⊎_elim (λ e. let z : ⊥ = omega arith in absurd z) (λ e. this (Z - (n.numbers - n.negatives)) (omega arith) (omega arith)) i.balanced

      go : (t : Bool) → (T t → Z < n.numbers - n.negatives) → (T (not t) → n.numbers - n.negatives ≤ Z) → turn n (cond t (Z + n.negatives) (Z -
          (n.numbers - n.negatives))) ≡ Z
      go true x y = up (x tt)
      go false x y = down (y tt)

  pub turn_less : (p : ℕ) → p < n.numbers → turn n p < n.numbers
  turn_less p l = go (ltb p (n.numbers - n.negatives)) (ltb→lt p (n.numbers - n.negatives)) (nltb→le p (n.numbers - n.negatives))
    where
      go : (t : Bool) → (T t → p < n.numbers - n.negatives) → (T (not t) → n.numbers - n.negatives ≤ p) → cond t (p + n.negatives) (p - (n.numbers
          - n.negatives)) < n.numbers
      go true x y = let h = x tt in omega arith
      go false x y = let h = y tt in omega arith

  -- ---- the answer at a place, and none
  pub at_place : (z : ℤ) (Z w : ℕ) → z ≡ sub_ℕ Z n.negatives → Z < n.numbers → w ≡ turn n Z → Ok (as_kind k (wrapping k (pos w))) ≡ checked k z
  unfolding checked
  at_place z Z w e l h =
      let v : wrapping k (pos w) ≡ z = ap (λ (x : ℕ). wrapping k (pos x)) h ∙ value_at k n (turn n Z) i (turn_less Z l) ∙ ap (λ (x : ℕ). sub_ℕ x n.negatives)
      (turned_back Z l) ∙ sym e in
      let r : in_range k z ≡ true = ap (in_range k) e ∙ in_range_lem Z l in
      ap (λ (x : ℤ). Ok (as_kind k x)) v ∙ sym (ap (λ (t : Bool). pick t (Ok (as_kind k z)) (Err Overflow)) r)

  none_at : (z : ℤ) → in_range k z ≡ false → Err Overflow ≡ checked k z
  unfolding checked
  none_at z r = sym (ap (λ (t : Bool). pick t (Ok (as_kind k z)) (Err Overflow)) r)

  pub below_all : (z : ℤ) (S c : ℕ) → z ≡ sub_ℕ S c → S + n.negatives < c → Err Overflow ≡ checked k z
  below_all z S c e l = none_at z (ap (in_range k) e ∙ below_range S c l)

  pub above_all : (z : ℤ) (S c : ℕ) → z ≡ sub_ℕ S c → c + n.numbers ≤ S + n.negatives → Err Overflow ≡ checked k z
  above_all z S c e l = none_at z (ap (in_range k) e ∙ above_range S c l)

  -- ---- of two words
  module _ (p q X Y : ℕ) (lp : p < n.numbers) (lq : q < n.numbers) (ex : X ≡ turn n p) (ey : Y ≡ turn n q) where
    first : wrapping k (pos p) ≡ sub_ℕ X n.negatives
    first = value_at k n p i lp ∙ ap (λ (x : ℕ). sub_ℕ x n.negatives) (sym ex)

    second : wrapping k (pos q) ≡ sub_ℕ Y n.negatives
    second = value_at k n q i lq ∙ ap (λ (x : ℕ). sub_ℕ x n.negatives) (sym ey)

    pub sum_is : wrapping k (pos p) +ℤ wrapping k (pos q) ≡ sub_ℕ (X + Y) (n.negatives + n.negatives)
    sum_is = ap (λ (z : ℤ). z +ℤ wrapping k (pos q)) first ∙ ap (λ (z : ℤ). sub_ℕ X n.negatives +ℤ z) second ∙ sum X n.negatives Y n.negatives

    pub difference_is : wrapping k (pos p) -ℤ wrapping k (pos q) ≡ sub_ℕ (X + n.negatives) (n.negatives + Y)
    difference_is = ap (λ (z : ℤ). z -ℤ wrapping k (pos q)) first ∙ ap (λ (z : ℤ). sub_ℕ X n.negatives -ℤ z) second ∙ difference X n.negatives Y n.negatives

-- ---- the order of places is that of their numbers
same_test : (a b c d : ℕ) → (a < b → c < d) → (b ≤ a → d ≤ c) → ltb c d ≡ ltb a b
same_test a b c d f g = go (ltb a b) (ltb→lt a b) (nltb→le a b)
  where
    go : (t : Bool) → (T t → a < b) → (T (not t) → b ≤ a) → ltb c d ≡ t
    go true x y = lt-ltb c d (f (x tt))
    go false x y = le-ltb c d (g (y tt))

pub lt_places : (X Y b : ℕ) → lt_z (sub_ℕ X b) (sub_ℕ Y b) ≡ ltb X Y
lt_places X Y b =
    sub_ind X b (λ (z : ℤ). lt_z z (sub_ℕ Y b) ≡ ltb X Y)
    (λ l.
    sub_ind Y b (λ (w : ℤ). lt_z (negsuc (b - suc X)) w ≡ ltb X Y)
    (λ m. same_test X Y (b - suc Y) (b - suc X) (λ h. omega arith) (λ h. omega arith))
    (λ m. sym (lt-ltb X Y (omega arith))))
    (λ l.
    sub_ind Y b (λ (w : ℤ). lt_z (pos (X - b)) w ≡ ltb X Y)
    (λ m. sym (le-ltb X Y (omega arith)))
    (λ m. same_test X Y (X - b) (Y - b) (λ h. omega arith) (λ h. omega arith)))

pub less_is : (k : IntKind) (n : NarrowKind) (p q X Y : ℕ) → IsOf k n → p < n.numbers → q < n.numbers → X ≡ turn n p → Y ≡ turn n q → lt_z (wrapping
    k (pos p)) (wrapping k (pos q)) ≡ ltb X Y
less_is k n p q X Y i lp lq ex ey =
    ap (λ (z : ℤ). lt_z z (wrapping k (pos q))) (first k n i p q X Y lp lq ex ey)
    ∙ ap (λ (z : ℤ). lt_z (sub_ℕ X n.negatives) z) (second k n i p q X Y lp lq ex ey)
    ∙ lt_places X Y n.negatives

-- ---- the product, by signs and magnitudes
pub down_from_zero : (x b m : ℕ) → x < b → m ≡ b - x → sub_ℕ x b ≡ neg_ℤ (pos m)
down_from_zero x b zero l e = let z : ⊥ = omega arith in absurd z
down_from_zero x b (suc m) l e = sub_down x b m (omega arith)

pub up_from_zero : (x b m : ℕ) → b ≤ x → m ≡ x - b → sub_ℕ x b ≡ pos m
up_from_zero x b m l e = sub_up x b m (omega arith)

pub small_product : (a b : ℕ) → a ≤ 4294967295 → b ≤ 4294967295 → a * b < 2 ^ 64
small_product a b h g = lt_of_le_of_lt (mul-le-mul h g) (lit< tt)

from_zero : (m : ℕ) → neg_ℤ (pos m) ≡ sub_ℕ 0 m
from_zero zero = sym (sub_up 0 0 0 refl)
from_zero (suc m) = sym (sub_down 0 (suc m) m (omega arith))

module _ (k : IntKind) (n : NarrowKind) (i : IsOf k n) (p q X Y a b : ℕ) (lp : p < n.numbers) (lq : q < n.numbers) (ex : X ≡ turn n p) (ey : Y ≡ turn n q)
    (ea : sub_ℕ X n.negatives ≡ signed (ltb X n.negatives) a) (eb : sub_ℕ Y n.negatives ≡ signed (ltb Y n.negatives) b) where
  product_is : wrapping k (pos p) *ℤ wrapping k (pos q) ≡ signed (unlike (ltb X n.negatives) (ltb Y n.negatives)) (a * b)
  product_is =
      ap (λ (z : ℤ). z *ℤ wrapping k (pos q)) (first k n i p q X Y lp lq ex ey ∙ ea)
      ∙ ap (λ (z : ℤ). signed (ltb X n.negatives) a *ℤ z) (second k n i p q X Y lp lq ex ey ∙ eb)
      ∙ product (ltb X n.negatives) (ltb Y n.negatives) a b

  -- signs alike: from zero up
  pub alike : beq (ltb X n.negatives) (ltb Y n.negatives) ≡ true → wrapping k (pos p) *ℤ wrapping k (pos q) ≡ sub_ℕ (n.negatives + a * b) n.negatives
  alike t = product_is ∙ ap (λ (s : Bool). signed (not s) (a * b)) t ∙ sym (sub_up (n.negatives + a * b) n.negatives (a * b) refl)

  -- and from zero down
  pub unalike : beq (ltb X n.negatives) (ltb Y n.negatives) ≡ false → wrapping k (pos p) *ℤ wrapping k (pos q) ≡ sub_ℕ 0 (a * b)
  unalike t = product_is ∙ ap (λ (s : Bool). signed (not s) (a * b)) t ∙ from_zero (a * b)

-- ---- UInt
pub wide_value : (w : ℕ) → w < 2 ^ 64 → Ok (UInt w) ≡ checked U64 (pos w)
unfolding checked
wide_value w l = let g : w ≤ 2 ^ 64 - 1 = omega arith in sym (ap (λ (t : Bool). pick t (Ok (UInt w)) (Err Overflow)) (le-leb w (2 ^ 64 - 1) g))

pub wide_less : (p q : ℕ) → p < q → Err Overflow ≡ checked U64 (pos p -ℤ pos q)
unfolding checked
wide_less p q l =
    let e : pos p -ℤ pos q ≡ neg_ℤ (pos (q - p)) = sum_other' false true p q refl (omega arith) in
    let r : in_range U64 (neg_ℤ (pos (q - p))) ≡ false = sym (in_range_neg U64 (q - p)) ∙ lt-leb (q - p) 0 (omega arith) in
    sym (ap (λ (z : ℤ). pick (in_range U64 z) (Ok (as_kind U64 z)) (Err Overflow)) e ∙ ap (λ (t : Bool). pick t (Ok (as_kind U64 (neg_ℤ (pos (q - p))))) (Err Overflow)) r)

pub wide_difference : (p q : ℕ) → q ≤ p → pos (p - q) ≡ pos p -ℤ pos q
wide_difference p q l = sym (sum_other false true p q refl l)

-- what the tests of an overflow leave
pub wide_sum : (p q : ℕ) (r : Option ℕ) → SomeIff r (p + q < 2 ^ 64) (p + q) → wide_answer r ≡ checked U64 (pos p +ℤ pos q)
wide_sum p q None h = sym (beyond U64 false (p + q) (omega (arith, h)))
wide_sum p q (Some w) h = rw h.1 (wide_value (p + q) h.0)

pub wide_rest : (p q : ℕ) (r : Option ℕ) → p < 2 ^ 64 → SomeIff r (q ≤ p) (p - q) → wide_answer r ≡ checked U64 (pos p -ℤ pos q)
wide_rest p q None l h = wide_less p q (omega (arith, h))
wide_rest p q (Some w) l h = rw h.1 (wide_value (p - q) (omega arith) ∙ ap (checked U64) (wide_difference p q h.0))

pub wide_product : (p q : ℕ) (r : Option ℕ) → SomeIff r (p * q < 2 ^ 64) (p * q) → wide_answer r ≡ checked U64 (pos p *ℤ pos q)
wide_product p q None h = sym (beyond U64 false (p * q) (omega (arith, h)))
wide_product p q (Some w) h = rw h.1 (wide_value (p * q) h.0)

-- the order of x and y is that of a and b, where their tests are the same
pub same_order : (x y : ℕ) (a b : ℤ) → lt_z a b ≡ ltb x y → lt_z b a ≡ ltb y x → nat_cmp x y ≡ integer_order a b
same_order x y a b e f = go (nat_cmp x y) (ranks x y)
  where
    go : (o : Ordering) → MatchOrdering o (x < y) (x ≡ y) (y < x) → o ≡ integer_order a b
    go Less h = order_less a b (e ∙ lt-ltb x y h)
    go Equal h = order_equal a b (e ∙ le-ltb x y (omega arith)) (f ∙ le-ltb y x (omega arith))
    go Greater h = order_greater a b (e ∙ le-ltb x y (omega arith)) (f ∙ lt-ltb y x h)
