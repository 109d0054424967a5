-- Laws on the lines of an image and on their digits.
use mathlib.Core.Path.{◌≡◌, refl, ap, sym, ◌∙◌}
use mathlib.Core.Bool.{Bool, true, false, cond, ◌&&◌}
use mathlib.Core.List.{List, [], ◌∷◌, ◌++◌, append_assoc, append-nil}
use mathlib.Core.Option.{Option, none, some}
use Prim.Native.Nat.{ℕ, suc, ◌+◌, ◌*◌, ◌-◌, ◌%◌, ◌≤◌, ◌<◌}
use native.Mathlib.Numerals.{add-one}
use native.Mathlib.Omega.{arith}
use borrow.Author.Tests.{le-leb, lt-leb, ne_eqb}
use lib.Dec.{ltb, leb, eqb}
use lib.ListN.{length, get_or, take, drop, set, length-drop, length-take, drop_of_length-le, take-append-drop}
use lib.Seq.{drop-cons, take-suc-set, split_at, get_or-drop, get_or-take, drop-drop, drop-set-lt, length-take-le}
use Rattle.definition.specs.Lines.{split, digit, with_byte, bytes_of, line, faulty, line_of}
use Rattle.std.proofs.Common.{Some, None}
use Rattle.line_digits.specs.Fields.{pair_of, decoded, written, over}

-- digits
abbrev pub prepend : List ℕ → Option (List ℕ) → Option (List ℕ)
prepend a none = none
prepend a (some b) = some (a ++ b)

bytes_two : (l : List ℕ) (p : ℕ) → p + 1 < length l → bytes_of (drop p l) ≡ with_byte (digit (get_or l p 0)) (digit (get_or l (p + 1) 0)) (bytes_of (drop (p + 2) l))
unfolding bytes_of
bytes_two l p h =
    let h₀ : p < length l = omega arith in
    let h₁ : suc p < length l = omega arith in
    let e : p + 1 ≡ suc p = omega arith in
    let e₂ : p + 2 ≡ suc (suc p) = omega arith in
    rw (e, e₂, drop-cons l p 0 h₀, drop-cons l (suc p) 0 h₁)

bytes_odd : (l : List ℕ) → length l % 2 ≡ 1 → bytes_of l ≡ none
unfolding bytes_of
bytes_odd [] e = let z : ⊥ = omega arith in absurd z
bytes_odd (a ∷ []) e = refl
bytes_odd (a ∷ b ∷ r) e = ap (with_byte (digit a) (digit b)) (bytes_odd r (omega arith))

module _ (l q : List ℕ) (p : ℕ) (inv : bytes_of l ≡ prepend q (bytes_of (drop p l))) where
  pub decode_stops : (next : ℕ) → next ≡ p + 1 → next < length l → pair_of (get_or l p 0) (get_or l next 0) ≡ None → bytes_of l ≡ none
  decode_stops next z h e =
      inv ∙ rw (bytes_two l p (rw (← z) h)) (stops (digit (get_or l p 0)) (digit (get_or l (p + 1) 0)) (bytes_of (drop (p + 2) l)) (rw z at e))
    where
      by_test : (t : Bool) (v : ℕ) (b : List ℕ) → cond t (Some v) None ≡ None → prepend q (cond t (some (v ∷ b)) none) ≡ none
      by_test true v b e = cc
      by_test false v b e = refl

      stops : (a b : ℕ) (o : Option (List ℕ)) → cond (ltb a 16 && ltb b 16) (Some (a * 16 + b)) None ≡ None → prepend q (with_byte a b o) ≡ none
      stops a b none e = refl
      stops a b (some c) e = by_test (ltb a 16 && ltb b 16) (a * 16 + b) c e

  pub decode_more :
      (v next : ℕ) → next ≡ p + 1 → next < length l → pair_of (get_or l p 0) (get_or l next 0) ≡ Some v
      → bytes_of l ≡ prepend (q ++ (v ∷ [])) (bytes_of (drop (p + 2) l))
  decode_more v next z h e =
      inv ∙ rw (bytes_two l p (rw (← z) h)) (goes_on (digit (get_or l p 0)) (digit (get_or l (p + 1) 0)) (bytes_of (drop (p + 2) l)) (rw z at e))
    where
      by_test :
          (t : Bool) (w : ℕ) (b : List ℕ) → cond t (Some w) None ≡ Some v → prepend q (cond t (some (w ∷ b)) none) ≡ prepend (q ++ (v ∷ [])) (some b)
      by_test true w b e =
          let same : w ≡ v = cc in
          rw (same, append_assoc)
      by_test false w b e = cc

      goes_on :
          (a b : ℕ) (o : Option (List ℕ)) → cond (ltb a 16 && ltb b 16) (Some (a * 16 + b)) None ≡ Some v
          → prepend q (with_byte a b o) ≡ prepend (q ++ (v ∷ [])) o
      goes_on a b none e = refl
      goes_on a b (some c) e = by_test (ltb a 16 && ltb b 16) (a * 16 + b) c e

  pub decode_done : p ≡ length l → bytes_of l ≡ some q
  unfolding bytes_of
  decode_done e =
      let n : length l ≤ p = omega arith in
      inv ∙ rw (drop_of_length-le l n, append-nil)

pub whole : (l : List ℕ) → bytes_of l ≡ prepend [] (bytes_of (drop 0 l))
whole l = same (bytes_of l)
  where
    same : (o : Option (List ℕ)) → o ≡ prepend [] o
    same none = refl
    same (some b) = refl

-- with the fields in a slice
pub fields_more :
    (l m : List ℕ) (t i p v : ℕ) (o : Option (List ℕ)) → i < length m → bytes_of l ≡ prepend ((t ∷ take i m) ++ (v ∷ [])) o
    → bytes_of l ≡ prepend (t ∷ take (i + 1) (set m i v)) o
fields_more l m t i p v o h e = rw (add-one i, take-suc-set m i v h) e

-- what was decoded so far, on a line that turns out wrong too
decoded_two :
    (l : List ℕ) (p : ℕ) → p + 1 < length l
    → decoded (drop p l)
    ≡ cond (ltb (digit (get_or l p 0)) 16 && ltb (digit (get_or l (p + 1) 0)) 16)
    ((digit (get_or l p 0) * 16 + digit (get_or l (p + 1) 0)) ∷ decoded (drop (p + 2) l)) []
unfolding decoded
decoded_two l p h =
    let h₀ : p < length l = omega arith in
    let h₁ : suc p < length l = omega arith in
    let e : p + 1 ≡ suc p = omega arith in
    let e₂ : p + 2 ≡ suc (suc p) = omega arith in
    rw (e, e₂, drop-cons l p 0 h₀, drop-cons l (suc p) 0 h₁)

module _ (l q : List ℕ) (p : ℕ) (inv : decoded l ≡ q ++ decoded (drop p l)) where
  pub decodes_stops : (next : ℕ) → next ≡ p + 1 → next < length l → pair_of (get_or l p 0) (get_or l next 0) ≡ None → decoded l ≡ q
  decodes_stops next z h e =
      inv
      ∙ rw (decoded_two l p (rw (← z) h))
      (by_test (ltb (digit (get_or l p 0)) 16 && ltb (digit (get_or l (p + 1) 0)) 16) (digit (get_or l p 0) * 16 + digit (get_or l (p + 1) 0))
      (decoded (drop (p + 2) l)) (rw z at e))
    where
      by_test : (t : Bool) (v : ℕ) (b : List ℕ) → cond t (Some v) None ≡ None → q ++ cond t (v ∷ b) [] ≡ q
      by_test true v b e = cc
      by_test false v b e = rw append-nil

  pub decodes_more :
      (v next : ℕ) → next ≡ p + 1 → next < length l → pair_of (get_or l p 0) (get_or l next 0) ≡ Some v
      → decoded l ≡ (q ++ (v ∷ [])) ++ decoded (drop (p + 2) l)
  decodes_more v next z h e =
      inv
      ∙ rw (decoded_two l p (rw (← z) h))
      (by_test (ltb (digit (get_or l p 0)) 16 && ltb (digit (get_or l (p + 1) 0)) 16) (digit (get_or l p 0) * 16 + digit (get_or l (p + 1) 0))
      (decoded (drop (p + 2) l)) (rw z at e))
    where
      by_test : (t : Bool) (w : ℕ) (b : List ℕ) → cond t (Some w) None ≡ Some v → q ++ cond t (w ∷ b) [] ≡ (q ++ (v ∷ [])) ++ b
      by_test true w b e =
          let same : w ≡ v = cc in
          rw (same, append_assoc)
      by_test false w b e = cc

  pub decodes_all : p ≡ length l → decoded l ≡ q
  unfolding decoded
  decodes_all e =
      let n : length l ≤ p = omega arith in
      inv ∙ rw (drop_of_length-le l n, append-nil)

pub decoded_next :
    (l m : List ℕ) (t i v : ℕ) (o : List ℕ) → i < length m → decoded l ≡ ((t ∷ take i m) ++ (v ∷ [])) ++ o → decoded l ≡ (t ∷ take (i + 1) (set m i v)) ++ o
decoded_next l m t i v o h e = rw (add-one i, take-suc-set m i v h) e

pub behind_next : (m m₀ : List ℕ) (i v : ℕ) → drop i m ≡ drop i m₀ → drop (i + 1) (set m i v) ≡ drop (i + 1) m₀
behind_next m m₀ i v e =
    drop-set-lt (i + 1) m i v (omega arith) ∙ sym (drop-drop 1 i m) ∙ ap (λ (x : List ℕ). drop 1 x) e ∙ drop-drop 1 i m₀

-- what is written of a line, by how it goes
pub writes_fields :
    (l m m₀ : List ℕ) (t i : ℕ) → length l ≤ 512 → (length l % 2 ≡ 1 → ⊥) → i ≤ length m → decoded l ≡ t ∷ take i m → drop i m ≡ drop i m₀
    → m ≡ over (written l) m₀
unfolding written
writes_fields l m m₀ t i h even fits d e =
    let zero_left : length l % 2 ≡ 0 = omega arith in
    let long : length (take i m) ≡ i = length-take-le i m fits in
    rw (le-leb (length l) 512 h, zero_left, d, long, ← e) (sym (take-append-drop i m))

pub writes_none : (l m : List ℕ) → decoded l ≡ [] → m ≡ over (written l) m
unfolding written
writes_none l m d = rw d (either (leb (length l) 512 && eqb (length l % 2) 0))
  where
    either : (t : Bool) → m ≡ over (cond t [] []) m
    either true = refl
    either false = refl

pub writes_short : (l m : List ℕ) → length l < 2 → m ≡ over (written l) m
unfolding decoded
writes_short [] m h = writes_none [] m refl
writes_short (a ∷ []) m h = writes_none (a ∷ []) m refl
writes_short (a ∷ b ∷ r) m h = absurd (long (length r) h)
  where
    long : (n : ℕ) → suc (suc n) < 2 → ⊥
    long n h = omega arith

pub writes_long : (l m : List ℕ) → 512 < length l → m ≡ over (written l) m
unfolding written
writes_long l m h = rw (lt-leb (length l) 512 h)

pub writes_odd : (l m : List ℕ) → length l % 2 ≡ 1 → m ≡ over (written l) m
unfolding written
writes_odd l m e = rw e (either (leb (length l) 512) (drop 1 (decoded l)))
  where
    either : (t : Bool) (b : List ℕ) → m ≡ over (cond (t && false) b []) m
    either true b = refl
    either false b = refl

pub line_none : (l : List ℕ) → bytes_of l ≡ none → faulty ≡ line_of l
unfolding line_of
line_none l e = rw e (either (leb (length l) 512))
  where
    either : (t : Bool) → faulty ≡ cond t faulty faulty
    either true = refl
    either false = refl

pub line_some : (l : List ℕ) (t : ℕ) (b : List ℕ) → length l ≤ 512 → bytes_of l ≡ some (t ∷ b) → line t b ≡ line_of l
unfolding line_of
line_some l t b h e = rw (le-leb (length l) 512 h, e)

pub line_odd : (l : List ℕ) → length l % 2 ≡ 1 → faulty ≡ line_of l
line_odd l e = line_none l (bytes_odd l e)

pub line_long : (l : List ℕ) → 512 < length l → faulty ≡ line_of l
unfolding line_of
line_long l h = rw (lt-leb (length l) 512 h)

pub line_short : (l : List ℕ) → length l < 2 → faulty ≡ line_of l
unfolding line_of bytes_of
line_short [] h = refl
line_short (a ∷ []) h = refl
line_short (a ∷ b ∷ r) h = absurd (long (length r) h)
  where
    long : (n : ℕ) → suc (suc n) < 2 → ⊥
    long n h = omega arith

-- lines
abbrev pub NoFeed : List ℕ → Type 0
NoFeed l = (i : ℕ) → i < length l → get_or l i 0 ≡ 10 → ⊥

tail_free : (x : ℕ) (xs : List ℕ) → NoFeed (x ∷ xs) → NoFeed xs
tail_free x xs f i h = f (suc i) (omega arith)

pub split_ended : (ds r : List ℕ) → NoFeed ds → split (ds ++ 10 ∷ r) ≡ record { lines = ds ∷ (split r).lines; left = (split r).left }
unfolding split
split_ended [] r f = refl
split_ended (x ∷ xs) r f = rw (ne_eqb x 10 (f 0 (omega arith)), split_ended xs r (tail_free x xs f))

pub split_open : (ds : List ℕ) → NoFeed ds → split ds ≡ record { lines = []; left = ds }
unfolding split
split_open [] f = refl
split_open (x ∷ xs) f = rw (ne_eqb x 10 (f 0 (omega arith)), split_open xs (tail_free x xs f))

module _ (l : List ℕ) (from to : ℕ) (order : from ≤ to) (free : (k : ℕ) → from ≤ k → k < to → get_or l k 0 ≡ 10 → ⊥) where
  pub line_here : to < length l → get_or l to 0 ≡ 10 → split (drop from l) ≡ record {
    lines = take (to - from) (drop from l) ∷ (split (drop (to + 1) l)).lines;
    left = (split (drop (to + 1) l)).left;
  }
  line_here h e =
      ap split (split_at (drop from l) (to - from) 0 (rw length-drop (omega arith)) ∙ rw (get_or-drop, drop-drop, there, e, after))
      ∙ split_ended (take (to - from) (drop from l)) (drop (to + 1) l) (λ i g. rw (get_or-take (to - from) (drop from l) i 0 (short i g), get_or-drop)
      (free (from + i) (omega arith) (omega (arith, short i g))))
    where
      there : from + (to - from) ≡ to
      there = omega arith

      after : from + suc (to - from) ≡ to + 1
      after = omega arith

      short : (i : ℕ) → i < length (take (to - from) (drop from l)) → i < to - from
      short i g = omega (arith, rw length-take at g)

  pub line_open : to ≡ length l → split (drop from l) ≡ record { lines = []; left = drop from l }
  line_open e = split_open (drop from l) (λ i g. rw get_or-drop (free (from + i) (omega arith) (omega (arith, rw length-drop at g))))
