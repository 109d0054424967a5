-- From what `load` ensures to what a caller reads in the work slices.
use mathlib.Core.Path.{◌≡◌, refl, sym, ap, ◌∙◌}
use mathlib.Core.Bool.{Bool, true, false, cond}
use mathlib.Core.Logic.{◌⊎◌, inl, inr}
use mathlib.Core.List.{List, [], ◌∷◌, ◌++◌, map}
use Prim.Native.Nat.{ℕ, zero, suc, ◌+◌, ◌*◌, ◌-◌, ◌≤◌, ◌<◌}
use native.Mathlib.Nat.{not-suc-le-zero}
use native.Mathlib.Omega.{arith}
use lib.ListN.{length, get_or, take, drop, length-append, length-take, length-drop, get_or-map}
use lib.Seq.{get_or-take, get_or-drop, take-take, length-take-le}
use Rattle.definition.specs.Image.{Chunk, Image, chunk_at, text_at}
use Rattle.definition.specs.Lines.{Load, image, refused, constants_of, load_image}
use Rattle.definition.specs.Loaded.{no_constant}
use Rattle.definition.proofs.Keeps.{loads_kept}
use Rattle.image.specs.Answer.{
  number_of,
  Slices,
  holds,
  refuses,
  encoded,
  short,
  load_in,
  flat,
  code_in,
  ends_from,
  rows_from,
  kind_of,
  payload_of,
  slices_of,
  counts_of,
  filled,
  LoadAnswer,
  Loads,
}
use Rattle.image.specs.Held.{cut, HeldChunk, HeldText, Held, Found}
use Rattle.image.specs.declared.Counts.{Counts}
use Rattle.image_store.specs.declared.Refusal.{Refusal}
use Rattle.std.proofs.Common.{Ok, Err}
use Rattle.image.proofs.Access.{
  at,
  table,
  constants_before,
  bytes_before,
  arity_here,
  name_here,
  constants_next,
  code_next,
  constants_cut,
  code_cut,
  length_map,
  constants_here,
  code_here,
  text_here,
  ends_rise,
  ends_within,
  ends_length,
}

cut_prefix : (s n e : ℕ) (l : List ℕ) → e ≤ n → cut s e (take n l) ≡ cut s e l
cut_prefix zero n e l h = let z : e - 0 ≤ n = omega arith in take-take (e - 0) n l z
cut_prefix (suc s) n zero l h = let z : 0 - suc s ≡ 0 = omega arith in rw z
cut_prefix (suc s) zero (suc e) l h = absurd (not-suc-le-zero h)
cut_prefix (suc s) (suc n) (suc e) [] h = refl
cut_prefix (suc s) (suc n) (suc e) (x ∷ xs) h = let z : suc e - suc s ≡ e - s = omega arith in rw z (cut_prefix s n e xs (omega arith))

taken : (n : ℕ) (l q : List ℕ) → take n l ≡ q → length q ≡ n → n ≤ length l
taken n l q e h = omega (arith, length-take n l, ap length e)

rows_length : (nc nb : ℕ) (cs : List Chunk) → length (rows_from nc nb cs) ≡ 4 * length cs
rows_length nc nb [] = refl
rows_length nc nb (c ∷ cs) = omega (arith, rows_length (nc + length c.constants) (nb + length c.code) cs)

module _ (ts : List (List ℕ)) (cs : List Chunk) (n : Counts) (m : Slices) (counts : n ≡ counts_of (record { texts = ts; chunks = cs })) (same : filled
    n m ≡ slices_of (record { texts = ts; chunks = cs })) where
  text_many : n.texts ≡ length ts
  unfolding counts_of
  text_many = ap (λ (z : Counts). z.texts) counts

  chunk_many : n.chunks ≡ length cs
  unfolding counts_of
  chunk_many = ap (λ (z : Counts). z.chunks) counts

  constant_many : n.constants ≡ length (constants_of cs)
  unfolding counts_of
  constant_many = ap (λ (z : Counts). z.constants) counts

  byte_many : n.bytes ≡ length (flat ts ++ code_in cs)
  unfolding counts_of
  byte_many = ap (λ (z : Counts). z.bytes) counts

  bytes_are : take n.bytes m.bytes ≡ flat ts ++ code_in cs
  unfolding slices_of
  bytes_are = ap (λ (p : Slices). p.bytes) same

  ends_are : take n.texts m.ends ≡ ends_from 0 ts
  unfolding slices_of
  ends_are = ap (λ (p : Slices). p.ends) same

  kinds_all : take n.constants m.kinds ≡ map kind_of (constants_of cs)
  unfolding slices_of
  kinds_all = ap (λ (p : Slices). p.kinds) same

  payloads_all : take n.constants m.payloads ≡ map payload_of (constants_of cs)
  unfolding slices_of
  payloads_all = ap (λ (p : Slices). p.payloads) same

  table_is : take (4 * (n.chunks + 1)) m.table ≡ table ts cs
  unfolding slices_of
  table_is = ap (λ (p : Slices). p.table) same

  entry : (j : ℕ) → j < 4 * (n.chunks + 1) → get_or m.table j 0 ≡ get_or (table ts cs) j 0
  entry j h = sym (get_or-take (4 * (n.chunks + 1)) m.table j 0 h) ∙ ap (λ (l : List ℕ). get_or l j 0) table_is

  table_long : 4 * (n.chunks + 1) ≤ length m.table
  table_long = taken (4 * (n.chunks + 1)) m.table (table ts cs) table_is (rw (length-append, rows_length 0 (length (flat ts)) cs) (omega (arith, chunk_many)))

  bytes_long : n.bytes ≤ length m.bytes
  bytes_long = taken n.bytes m.bytes (flat ts ++ code_in cs) bytes_are (sym byte_many)

  module _ (c : ℕ) (h : c < length cs) where
    e2 : get_or m.table (4 * c + 2) 0 ≡ get_or (table ts cs) (4 * c + 2) 0
    e2 = entry (4 * c + 2) (omega (arith, chunk_many))

    e3 : get_or m.table (4 * c + 3) 0 ≡ get_or (table ts cs) (4 * c + 3) 0
    e3 = entry (4 * c + 3) (omega (arith, chunk_many))

    e6 : get_or m.table (4 * c + 6) 0 ≡ get_or (table ts cs) (4 * c + 6) 0
    e6 = entry (4 * c + 6) (omega (arith, chunk_many))

    e7 : get_or m.table (4 * c + 7) 0 ≡ get_or (table ts cs) (4 * c + 7) 0
    e7 = entry (4 * c + 7) (omega (arith, chunk_many))

    upto : c ≤ length cs
    upto = omega arith

    six : 4 * c + 6 ≡ 4 * suc c + 2
    six = omega arith

    seven : 4 * c + 7 ≡ 4 * suc c + 3
    seven = omega arith

    c2 : get_or m.table (4 * c + 2) 0 ≡ length (constants_of (take c cs))
    c2 = e2 ∙ constants_before ts cs c upto

    c6 : get_or m.table (4 * c + 6) 0 ≡ length (constants_of (take c cs)) + length (at cs c).constants
    c6 = e6 ∙ ap (λ (i : ℕ). get_or (table ts cs) i 0) six ∙ constants_before ts cs (suc c) h ∙ constants_next cs c h

    c3 : get_or m.table (4 * c + 3) 0 ≡ length (flat ts) + length (code_in (take c cs))
    c3 = e3 ∙ bytes_before ts cs c upto

    c7 : get_or m.table (4 * c + 7) 0 ≡ length (flat ts) + (length (code_in (take c cs)) + length (at cs c).code)
    c7 = e7 ∙ ap (λ (i : ℕ). get_or (table ts cs) i 0) seven ∙ bytes_before ts cs (suc c) h ∙ ap (λ (k : ℕ). length (flat ts) + k) (code_next cs c h)

    c6_few : get_or m.table (4 * c + 6) 0 ≤ n.constants
    c6_few = omega (arith, c6, constant_many, constants_cut cs (suc c), constants_next cs c h)

    c7_few : get_or m.table (4 * c + 7) 0 ≤ n.bytes
    c7_few = omega (arith, c7, byte_many, length-append (flat ts) (code_in cs), code_cut cs (suc c), code_next cs c h)

    held_chunk : HeldChunk m c (at cs c)
    held_chunk =
        record {
          row_within = omega (arith, table_long, chunk_many);
          arity_is = entry (4 * c) (omega (arith, chunk_many)) ∙ arity_here ts cs c h;
          name_is = entry (4 * c + 1) (omega (arith, chunk_many)) ∙ name_here ts cs c h;
          constants_rise = omega (arith, c2, c6);
          kinds_within = omega (arith, c6_few, taken n.constants m.kinds _ kinds_all (length_map kind_of (constants_of cs) ∙ sym constant_many));
          payloads_within = omega (arith, c6_few, taken n.constants m.payloads _ payloads_all (length_map payload_of (constants_of cs) ∙ sym constant_many));
          kinds_are = sym (cut_prefix (get_or m.table (4 * c + 2) 0) n.constants (get_or m.table (4 * c + 6) 0) m.kinds c6_few) ∙ rw
              (kinds_all, e2, e6) (constants_here ts cs c h kind_of);
          payloads_are = sym (cut_prefix (get_or m.table (4 * c + 2) 0) n.constants (get_or m.table (4 * c + 6) 0) m.payloads c6_few) ∙ rw
              (payloads_all, e2, e6) (constants_here ts cs c h payload_of);
          code_rises = omega (arith, c3, c7);
          code_within = omega (arith, c7_few, bytes_long);
          code_is = sym (cut_prefix (get_or m.table (4 * c + 3) 0) n.bytes (get_or m.table (4 * c + 7) 0) m.bytes c7_few) ∙ rw (bytes_are, e3, e7) (code_here ts cs c h);
        }

  module _ (t : ℕ) (h : t < length ts) where
    end_is : get_or m.ends t 0 ≡ get_or (ends_from 0 ts) t 0
    end_is = sym (get_or-take n.texts m.ends t 0 (omega (arith, text_many))) ∙ ap (λ (l : List ℕ). get_or l t 0) ends_are

    start_is : get_or (0 ∷ m.ends) t 0 ≡ get_or (0 ∷ ends_from 0 ts) t 0
    start_is = from t h
      where
        from : (t : ℕ) → t < length ts → get_or (0 ∷ m.ends) t 0 ≡ get_or (0 ∷ ends_from 0 ts) t 0
        from zero g = refl
        from (suc t) g = sym (get_or-take n.texts m.ends t 0 (omega (arith, text_many))) ∙ ap (λ (l : List ℕ). get_or l t 0) ends_are

    end_few : get_or m.ends t 0 ≤ n.bytes
    end_few = omega (arith, end_is, ends_within 0 ts t h, byte_many, length-append (flat ts) (code_in cs))

    held_text : HeldText m t (get_or ts t [])
    held_text =
        record {
          end_within = omega (arith, text_many, taken n.texts m.ends (ends_from 0 ts) ends_are (ends_length 0 ts ∙ sym text_many));
          text_rises = rw (start_is, end_is) (ends_rise 0 ts t h);
          text_within = omega (arith, end_few, bytes_long);
          text_is = sym (cut_prefix (get_or (0 ∷ m.ends) t 0) n.bytes (get_or m.ends t 0) m.bytes end_few) ∙ rw (bytes_are, start_is, end_is)
              (text_here 0 [] ts (code_in cs) t refl h);
        }

  held : Held m n (record { texts = ts; chunks = cs })
  unfolding chunk_at text_at
  held =
      record {
        text_count = text_many;
        chunk_count = chunk_many;
        chunks_held = λ c h. held_chunk c h;
        texts_held = λ t h. held_text t h;
      }

never : {A : Type 0} → ◌≡◌ {A = ℕ} 0 1 → A
never z = absurd (no z)
  where
    no : ◌≡◌ {A = ℕ} 0 1 → ⊥
    no z = omega arith

-- what an answer says of the image
loaded_as : (bytes : List ℕ) (m m' : Slices) (n : Counts) (t : Bool) (x : Load) → t ≡ short m → x ≡ load_image bytes → holds n (filled n m') ≡ cond t
    (refuses 9 0) (encoded x) → Found bytes m m' n
loaded_as bytes m m' n true x s l e = never (cc)
loaded_as bytes m m' n false (image im) s l e =
    record {
      found = im;
      long = sym s;
      is = sym l;
      held = held im.texts im.chunks n m' (cc) (cc);
      kept = loads_kept bytes im (sym l);
    }
loaded_as bytes m m' n false (refused k j) s l e = never (cc)

-- each chunk has its row
pub rows_within : {m : Slices} {n : Counts} {im : Image} → Held m n im → 4 * n.chunks ≤ length m.table
rows_within {m} {n} H = go n.chunks refl
  where
    go : (k : ℕ) → n.chunks ≡ k → 4 * k ≤ length m.table
    go zero e = omega arith
    go (suc k) e = let h = (H.chunks_held k (omega (arith, H.chunk_count))).row_within in omega arith

pub found : (bytes : List ℕ) (m m' : Slices) (r : LoadAnswer) (n : Counts) → r ≡ Ok n → Loads bytes m r m' → Found bytes m m' n
unfolding load_in
found bytes m m' r n q l = loaded_as bytes m m' n (short m) (load_image bytes) refl refl (rw q at l.answer)

refused_by : (t : Bool) (x : Load) (n k : ℕ) → refuses n k ≡ cond t (refuses 9 0) (encoded x) → (t ≡ true) ⊎ (x ≡ refused n k)
refused_by true x n k e = inl refl
refused_by false (image im) n k e = never (cc)
refused_by false (refused m l) n k e = inr (cc)

-- a refusal: a slice is short, or it is the definition's
pub refused_as : (bytes : List ℕ) (m m' : Slices) (r : LoadAnswer) (f : Refusal) → r ≡ Err f → Loads bytes m r m' → (short m ≡ true) ⊎
    (load_image bytes ≡ refused (number_of f.reason) f.line)
unfolding load_in
refused_as bytes m m' r f q l = refused_by (short m) (load_image bytes) (number_of f.reason) f.line (rw q at l.answer)

-- one constant and one byte of a chunk, one byte of a text
cut_at : (from to : ℕ) (l : List ℕ) (i : ℕ) → i < to - from → get_or (cut from to l) i 0 ≡ get_or l (from + i) 0
cut_at from to l i h = get_or-take (to - from) (drop from l) i 0 h ∙ get_or-drop from l i 0

cut_length : (from to : ℕ) (l q : List ℕ) → cut from to l ≡ q → from ≤ to → to ≤ length l → length q ≡ to - from
cut_length from to l q e h g = sym (ap length e) ∙ length-take-le (to - from) (drop from l) (rw length-drop (omega arith))

module _ (m : Slices) (c : ℕ) (d : Chunk) (h : HeldChunk m c d) where
  abbrev constants_from : ℕ
  constants_from = get_or m.table (4 * c + 2) 0

  abbrev constants_to : ℕ
  constants_to = get_or m.table (4 * c + 6) 0

  abbrev code_from : ℕ
  code_from = get_or m.table (4 * c + 3) 0

  abbrev code_to : ℕ
  code_to = get_or m.table (4 * c + 7) 0

  pub constant_count : constants_to - constants_from ≡ length d.constants
  constant_count = sym (cut_length constants_from constants_to m.kinds (map kind_of d.constants) h.kinds_are h.constants_rise h.kinds_within)
      ∙ length_map kind_of d.constants

  pub code_length : code_to - code_from ≡ length d.code
  code_length = sym (cut_length code_from code_to m.bytes d.code h.code_is h.code_rises h.code_within)

  pub payload_at : (k : ℕ) → k < length d.constants → get_or m.payloads (constants_from + k) 0 ≡ (get_or d.constants k no_constant).payload
  payload_at k l =
      let z = constant_count in
      sym (cut_at constants_from constants_to m.payloads k (omega arith)) ∙ ap (λ (x : List ℕ). get_or x k 0) h.payloads_are ∙ get_or-map
      payload_of d.constants k no_constant

  pub code_at : (i : ℕ) → i < length d.code → get_or m.bytes (code_from + i) 0 ≡ get_or d.code i 0
  code_at i l =
      let z = code_length in
      sym (cut_at code_from code_to m.bytes i (omega arith)) ∙ ap (λ (x : List ℕ). get_or x i 0) h.code_is
