-- The reading over the work slices gives the image that document 01 describes, as it lies in them.
use mathlib.Core.Path.{◌≡◌, refl, sym, ap, ◌∙◌}
use mathlib.Core.Bool.{Bool, true, false, cond, ◌&&◌}
use mathlib.Core.List.{List, [], ◌∷◌, ◌++◌, map, append_assoc, append-nil}
use Prim.Native.Nat.{ℕ, ◌+◌, ◌<◌}
use native.Mathlib.Omega.{arith}
use borrow.Author.Tests.{lt-ltb, le-ltb, ltb-true, ltb-false}
use lib.Dec.{ltb, leb, eqb}
use lib.ListN.{length, length-append}
use Rattle.definition.specs.Image.{Constant, Chunk, Image}
use Rattle.definition.specs.Lines.{
  image,
  refused,
  is_empty,
  split,
  Line,
  line,
  faulty,
  line_of,
  text,
  opens,
  constant,
  code,
  ends,
  fault,
  record_of,
  in_texts,
  in_constants,
  in_code,
  after_short,
  takes_text,
  part_after_code,
  open_chunk,
  on_open,
  seen,
  add_text,
  opened,
  add_chunk,
  with_constant,
  add_constant,
  with_code,
  add_code,
  constants_of,
  all_named,
  ending,
  follow,
  reads,
  blank,
  load_image,
}
use Rattle.definition.specs.Lines.{Part as FormatPart, Record as FormatRecord, on_line as format_line}
use Rattle.definition.proofs.Judged.{true_not_false, false_not_true, LineBytes, line_bytes, Told, told}
use Rattle.definition.proofs.Keeps.{open_length, empty_snoc, empty_open, constant_no_text, code_no_text, after_code_no_text}
use Rattle.image_records.specs.Records.{part_of, seen_of}
use Rattle.image_records.specs.declared.Part.{Part}
use Rattle.image_records.specs.declared.Part.TheVariants.{InTexts, InConstants, InCode, AfterShort}
use Rattle.image_records.specs.declared.State.{State}
use Rattle.image_store.specs.Stored.{named_by}
use Rattle.image.specs.Answer.{holds, refuses, flat, code_in, bytes_in, ends_from, kind_of, payload_of, rows_from, slices_of, counts_of, encoded}
use Rattle.image.specs.Reading.{Parts, start, grow, counts_in, closing, on_record, on_line, go, goes, load_of}
use Rattle.image.proofs.Grown.{parts_all}

-- where a line stands, as the code has it
abbrev code_part : FormatPart → Part
code_part in_texts = InTexts
code_part in_constants = InConstants
code_part in_code = InCode
code_part after_short = AfterShort

part_back : (p : FormatPart) → part_of (code_part p) ≡ p
part_back in_texts = refl
part_back in_constants = refl
part_back in_code = refl
part_back after_short = refl

part_code : (t : Bool) → cond t InCode AfterShort ≡ code_part (cond t in_code after_short)
part_code true = refl
part_code false = refl

-- an image that is being read, as it lies in the slices. `code` is how many bytes the code lines of the open chunk have so far
abbrev named_from : ℕ → List Constant → ℕ
named_from n [] = n
named_from n (c ∷ cs) = named_from (named_by n c.kind c.payload) cs

abbrev numbers_of : FormatPart → Image → State
numbers_of p im =
    record {
      part = code_part p;
      texts = length im.texts;
      chunks = length im.chunks;
      own = length (open_chunk im.chunks).constants;
      code = length (open_chunk im.chunks).code;
      named = named_from 0 (constants_of im.chunks);
      constants = length (constants_of im.chunks);
      bytes = length (bytes_in im);
      rows = length im.chunks;
    }

unfoldable pub encode : FormatPart → Image → Parts
encode p im =
    record {
      numbers = numbers_of p im;
      held =
          record {
            bytes = bytes_in im;
            ends = ends_from 0 im.texts;
            kinds = map kind_of (constants_of im.chunks);
            payloads = map payload_of (constants_of im.chunks);
            table = rows_from 0 (length (flat im.texts)) im.chunks;
          };
    }

state_eq :
    {q q' : Part} {b c d e f g h i b' c' d' e' f' g' h' i' : ℕ}
    → q ≡ q' → b ≡ b' → c ≡ c' → d ≡ d' → e ≡ e' → f ≡ f' → g ≡ g' → h ≡ h' → i ≡ i'
    → ◌≡◌ {A = State} (record { part = q; texts = b; chunks = c; own = d; code = e; named = f; constants = g; bytes = h; rows = i })
    (record { part = q'; texts = b'; chunks = c'; own = d'; code = e'; named = f'; constants = g'; bytes = h'; rows = i' })
state_eq p q r s t u v w x = rw (p, q, r, s, t, u, v, w, x)

-- the open chunk
open_snoc : (cs : List Chunk) (c : Chunk) → open_chunk (cs ++ (c ∷ [])) ≡ c
open_snoc [] c = refl
open_snoc (d ∷ []) c = refl
open_snoc (d ∷ e ∷ cs) c = open_snoc (e ∷ cs) c

open_last : (f : Chunk → Chunk) (cs : List Chunk) → is_empty cs ≡ false → open_chunk (on_open f cs) ≡ f (open_chunk cs)
open_last f [] h = true_not_false h
open_last f (c ∷ []) h = refl
open_last f (c ∷ d ∷ []) h = refl
open_last f (c ∷ d ∷ e ∷ cs) h = open_last f (d ∷ e ∷ cs) refl

-- texts
flat_snoc : (xs : List (List ℕ)) (x : List ℕ) → flat (xs ++ (x ∷ [])) ≡ flat xs ++ x
flat_snoc [] x = append-nil x
flat_snoc (y ∷ ys) x = rw (flat_snoc ys x, append_assoc)

ends_snoc : (n : ℕ) (xs : List (List ℕ)) (x : List ℕ) → ends_from n (xs ++ (x ∷ [])) ≡ ends_from n xs ++ ((n + length (flat xs) + length x) ∷ [])
ends_snoc n [] x = let z : n + length x ≡ n + 0 + length x = omega arith in rw z
ends_snoc n (y ∷ ys) x =
    let z : n + length y + length (flat ys) + length x ≡ n + length (y ++ flat ys) + length x = rw length-append (omega arith) in
    ap ((n + length y) ∷◌) (ends_snoc (n + length y) ys x ∙ rw z)

length_snoc : {A : Type 0} (xs : List A) (x : A) → length xs + 1 ≡ length (xs ++ (x ∷ []))
length_snoc xs x = sym (length-append xs (x ∷ []))

-- a chunk more
module _ (a n : ℕ) where
  constants_snoc : (cs : List Chunk) → constants_of (cs ++ (opened a n ∷ [])) ≡ constants_of cs
  constants_snoc [] = refl
  constants_snoc (c ∷ cs) = ap (c.constants ++◌) (constants_snoc cs)

  code_snoc : (cs : List Chunk) → code_in (cs ++ (opened a n ∷ [])) ≡ code_in cs
  code_snoc [] = refl
  code_snoc (c ∷ cs) = ap (c.code ++◌) (code_snoc cs)

  rows_snoc :
      (nc nb : ℕ) (cs : List Chunk)
      → rows_from nc nb (cs ++ (opened a n ∷ [])) ≡ rows_from nc nb cs ++ (a ∷ n ∷ (nc + length (constants_of cs)) ∷ (nb + length (code_in cs)) ∷ [])
  rows_snoc nc nb [] =
      let z : nc ≡ nc + 0 = omega arith in
      let y : nb ≡ nb + 0 = omega arith in
      ap (λ (p : ℕ). a ∷ n ∷ p ∷ nb ∷ []) z ∙ ap (λ (p : ℕ). a ∷ n ∷ (nc + 0) ∷ p ∷ []) y
  rows_snoc nc nb (c ∷ cs) =
      let z : nc + length c.constants + length (constants_of cs) ≡ nc + length (c.constants ++ constants_of cs) = rw length-append (omega arith) in
      let y : nb + length c.code + length (code_in cs) ≡ nb + length (c.code ++ code_in cs) = rw length-append (omega arith) in
      ap (λ (l : List ℕ). c.arity ∷ c.name ∷ nc ∷ nb ∷ l) (rows_snoc (nc + length c.constants) (nb + length c.code) cs ∙ rw (z, y))

rows_last :
    (f : Chunk → Chunk) → ((c : Chunk) → (f c).arity ≡ c.arity) → ((c : Chunk) → (f c).name ≡ c.name) → (nc nb : ℕ) (cs : List Chunk)
    → rows_from nc nb cs ≡ rows_from nc nb (on_open f cs)
rows_last f fa fn nc nb [] = refl
rows_last f fa fn nc nb (c ∷ []) = rw (fa c, fn c)
rows_last f fa fn nc nb (c ∷ d ∷ cs) = ap (λ (l : List ℕ). c.arity ∷ c.name ∷ nc ∷ nb ∷ l) (rows_last f fa fn (nc + length c.constants) (nb + length c.code) (d ∷ cs))

module _ (k v : ℕ) where
  abbrev one : List Constant
  one = record { kind = k; payload = v } ∷ []

  constants_last : (cs : List Chunk) → is_empty cs ≡ false → constants_of cs ++ one ≡ constants_of (on_open (with_constant k v) cs)
  constants_last [] h = true_not_false h
  constants_last (c ∷ []) h = simp append-nil
  constants_last (c ∷ d ∷ cs) h = append_assoc c.constants (constants_of (d ∷ cs)) one ∙ ap (c.constants ++◌) (constants_last (d ∷ cs) refl)

  code_kept : (cs : List Chunk) → code_in cs ≡ code_in (on_open (with_constant k v) cs)
  code_kept [] = refl
  code_kept (c ∷ []) = refl
  code_kept (c ∷ d ∷ cs) = ap (c.code ++◌) (code_kept (d ∷ cs))

module _ (b : List ℕ) where
  constants_kept : (cs : List Chunk) → constants_of cs ≡ constants_of (on_open (with_code b) cs)
  constants_kept [] = refl
  constants_kept (c ∷ []) = refl
  constants_kept (c ∷ d ∷ cs) = ap (c.constants ++◌) (constants_kept (d ∷ cs))

  code_last : (cs : List Chunk) → is_empty cs ≡ false → code_in cs ++ b ≡ code_in (on_open (with_code b) cs)
  code_last [] h = true_not_false h
  code_last (c ∷ []) h = simp append-nil
  code_last (c ∷ d ∷ cs) h = append_assoc c.code (code_in (d ∷ cs)) b ∙ ap (c.code ++◌) (code_last (d ∷ cs) refl)

-- constants
named_snoc : (n : ℕ) (cs : List Constant) (c : Constant) → named_by (named_from n cs) c.kind c.payload ≡ named_from n (cs ++ (c ∷ []))
named_snoc n [] c = refl
named_snoc n (d ∷ cs) c = named_snoc (named_by n d.kind d.payload) cs c

map_snoc : (f : Constant → ℕ) (cs : List Constant) (c : Constant) → map f cs ++ (f c ∷ []) ≡ map f (cs ++ (c ∷ []))
map_snoc f [] c = refl
map_snoc f (d ∷ cs) c = ap (f d ∷◌) (map_snoc f cs c)

named_below : (m k v n : ℕ) → ltb (named_by m k v) n ≡ cond (ltb m n) (cond (eqb k 20) (ltb v n) true) false
named_below m k v n = by (eqb k 20) (ltb m v) refl (ltb m n) refl
  where
    by : (t u : Bool) → u ≡ ltb m v → (w : Bool) → w ≡ ltb m n → ltb (cond t (cond u v m) m) n ≡ cond w (cond t (ltb v n) true) false
    by false u p true q = sym q
    by false u p false q = sym q
    by true true p true q = refl
    by true true p false q = le-ltb v n (let x = ltb-true m v (sym p) in let y = ltb-false m n (sym q) in omega arith)
    by true false p true q = sym q ∙ sym (lt-ltb v n (let x = ltb-false m v (sym p) in let y = ltb-true m n (sym q) in omega arith))
    by true false p false q = sym q

pub named_all : (n : ℕ) (cs : List Constant) (m : ℕ) → ltb (named_from m cs) n ≡ cond (ltb m n) (all_named n cs) false
named_all n [] m = by (ltb m n)
  where
    by : (t : Bool) → t ≡ cond t true false
    by true = refl
    by false = refl
named_all n (c ∷ cs) m =
    named_all n cs (named_by m c.kind c.payload)
    ∙ rw (named_below m c.kind c.payload n) (by (ltb m n) (eqb c.kind 20) (ltb c.payload n) (all_named n cs))
  where
    by : (t u w z : Bool) → cond (cond t (cond u w true) false) z false ≡ cond t (cond u w true && z) false
    by true true true z = refl
    by true true false z = refl
    by true false w z = refl
    by false u w z = refl

-- one line more
abbrev of : List (List ℕ) → List Chunk → Image
of ts cs = record { texts = ts; chunks = cs }

module _ (p : FormatPart) (ts : List (List ℕ)) where
  step_text : (b : List ℕ) (cs : List Chunk) → is_empty cs ≡ true → grow (encode p (of ts cs)) (text b) ≡ encode in_texts (add_text (of ts cs) b)
  unfolding grow encode
  step_text b [] h =
      parts_all
      (state_eq refl (length_snoc ts b) refl refl refl refl refl (sym (length-append (flat ts ++ []) b) ∙ ap length all) refl)
      all
      (ap (λ (n : ℕ). ends_from 0 ts ++ (n ∷ [])) plus ∙ sym (ends_snoc 0 ts b))
      refl refl refl
    where
      plus : length (flat ts ++ []) + length b ≡ 0 + length (flat ts) + length b
      plus = rw append-nil (omega arith)

      all : (flat ts ++ []) ++ b ≡ flat (ts ++ (b ∷ [])) ++ []
      all = rw (flat_snoc ts b) (simp append-nil)
  step_text b (c ∷ cs) h = false_not_true h

  step_chunk : (a n : ℕ) (cs : List Chunk) → grow (encode p (of ts cs)) (opens a n) ≡ encode in_constants (add_chunk (of ts cs) a n)
  unfolding grow encode
  step_chunk a n cs =
      parts_all
      (state_eq refl refl (length_snoc cs (opened a n)) (sym (ap (λ (c : Chunk). length c.constants) (open_snoc cs (opened a n)))) (sym (ap (λ (c :
      Chunk). length c.code) (open_snoc cs (opened a n)))) (ap (named_from 0) (sym (constants_snoc a n cs))) (ap length (sym (constants_snoc a n
      cs))) (ap (λ (l : List ℕ). length (flat ts ++ l)) (sym (code_snoc a n cs))) (length_snoc cs (opened a n)))
      (append-nil _ ∙ ap (λ (l : List ℕ). flat ts ++ l) (sym (code_snoc a n cs)))
      (append-nil _)
      (append-nil _ ∙ ap (map kind_of) (sym (constants_snoc a n cs)))
      (append-nil _ ∙ ap (map payload_of) (sym (constants_snoc a n cs)))
      (rw (rows_snoc a n 0 (length (flat ts)) cs) (ap (λ (l : List ℕ). rows_from 0 (length (flat ts)) cs ++ l) (row (length (constants_of cs)))))
    where
      row : (m : ℕ) → ◌≡◌ {A = List ℕ} (a ∷ n ∷ m ∷ length (flat ts ++ code_in cs) ∷ []) (a ∷ n ∷ (0 + m) ∷ (length (flat ts) + length (code_in cs)) ∷ [])
      row m = let z : 0 + m ≡ m = omega arith in rw (z, length-append)

  step_constant : (k v : ℕ) (cs : List Chunk) → is_empty cs ≡ false → grow (encode p (of ts cs)) (constant k v) ≡ encode in_constants (add_constant (of ts cs) k v)
  unfolding grow encode
  step_constant k v cs h =
      parts_all
      (state_eq refl refl (sym (open_length (with_constant k v) cs))
      (length_snoc (open_chunk cs).constants new ∙ sym (ap (λ (c : Chunk). length c.constants) (open_last (with_constant k v) cs h)))
      (sym (ap (λ (c : Chunk). length c.code) (open_last (with_constant k v) cs h)))
      (named_snoc 0 (constants_of cs) new ∙ ap (named_from 0) more)
      (length_snoc (constants_of cs) new ∙ ap length more)
      (ap (λ (l : List ℕ). length (flat ts ++ l)) (code_kept k v cs))
      (sym (open_length (with_constant k v) cs)))
      (append-nil _ ∙ ap (λ (l : List ℕ). flat ts ++ l) (code_kept k v cs))
      (append-nil _)
      (map_snoc kind_of (constants_of cs) new ∙ ap (map kind_of) more)
      (map_snoc payload_of (constants_of cs) new ∙ ap (map payload_of) more)
      (append-nil _ ∙ rows_last (with_constant k v) (λ c. refl) (λ c. refl) 0 (length (flat ts)) cs)
    where
      new : Constant
      new = record { kind = k; payload = v }

      more : constants_of cs ++ (record { kind = k; payload = v } ∷ []) ≡ constants_of (on_open (with_constant k v) cs)
      more = constants_last k v cs h

  step_code : (b : List ℕ) (cs : List Chunk) → is_empty cs ≡ false → grow (encode p (of ts cs)) (code b) ≡ encode (part_after_code b) (add_code (of ts cs) b)
  unfolding grow encode
  step_code b cs h =
      parts_all
      (state_eq (part_code (eqb (length b) 64)) refl (sym (open_length (with_code b) cs))
      (sym (ap (λ (c : Chunk). length c.constants) (open_last (with_code b) cs h)))
      (sym (length-append (open_chunk cs).code b) ∙ sym (ap (λ (c : Chunk). length c.code) (open_last (with_code b) cs h)))
      (ap (named_from 0) (constants_kept b cs))
      (ap length (constants_kept b cs))
      (sym (length-append (flat ts ++ code_in cs) b) ∙ ap length all)
      (sym (open_length (with_code b) cs)))
      all
      (append-nil _)
      (append-nil _ ∙ ap (map kind_of) (constants_kept b cs))
      (append-nil _ ∙ ap (map payload_of) (constants_kept b cs))
      (append-nil _ ∙ rows_last (with_code b) (λ c. refl) (λ c. refl) 0 (length (flat ts)) cs)
    where
      all : (flat ts ++ code_in cs) ++ b ≡ flat ts ++ code_in (on_open (with_code b) cs)
      all = append_assoc (flat ts) (code_in cs) b ∙ ap (λ (l : List ℕ). flat ts ++ l) (code_last b cs h)

outcome_eq : {n : _} {a b c d e a' b' c' d' e' : List ℕ} → a ≡ a' → b ≡ b' → c ≡ c' → d ≡ d' → e ≡ e'
    → holds n (record { bytes = a; ends = b; kinds = c; payloads = d; table = e }) ≡ holds n (record { bytes = a'; ends = b'; kinds = c'; payloads = d'; table = e' })
outcome_eq q r s t u = rw (q, r, s, t, u)

-- the end
whole_image : (p : FormatPart) (ts : List (List ℕ)) (cs : List Chunk) → holds (counts_in (grow (encode p (of ts cs)) ends).numbers) (grow (encode p
    (of ts cs)) ends).held ≡ holds (counts_of (of ts cs)) (slices_of (of ts cs))
unfolding grow encode counts_of slices_of
whole_image p ts cs = outcome_eq (append-nil _) (append-nil _) (append-nil _) (append-nil _) refl

named_grown : (p : FormatPart) (ts : List (List ℕ)) (cs : List Chunk) → ltb (grow (encode p (of ts cs)) ends).numbers.named (grow (encode p (of ts
    cs)) ends).numbers.chunks ≡ ltb (named_from 0 (constants_of cs)) (length cs)
unfolding grow encode
named_grown p ts cs = refl

by_end : (p : FormatPart) (ts : List (List ℕ)) (cs : List Chunk) (last : Bool) → 0 < length cs → closing (grow (encode p (of ts cs)) ends) last ≡ encoded (ending (of ts cs) last)
by_end p ts cs last h =
    rw (named_grown p ts cs, named_all (length cs) (constants_of cs) 0, lt-ltb 0 (length cs) h, whole_image p ts cs) (by last (all_named (length cs) (constants_of cs)))
  where
    by : (t u : Bool) → cond t (cond u (holds (counts_of (of ts cs)) (slices_of (of ts cs))) (refuses 7 0)) (refuses 6 0) ≡ encoded (cond t (cond u
        (image (of ts cs)) (refused 7 0)) (refused 6 0))
    by true true = refl
    by true false = refl
    by false u = refl

-- what a line is judged by is the same
same_seen : (p : FormatPart) (im : Image) → seen_of (encode p im).numbers ≡ seen p im
unfolding encode
same_seen p im = rw (part_back p)

module _
    (ls : List (List ℕ)) (left : List ℕ) (p : FormatPart) (ts : List (List ℕ)) (cs : List Chunk) (k : ℕ) (h : is_empty cs ≡ takes_text p)
    (after : (p' : FormatPart) (ts' : List (List ℕ)) (cs' : List Chunk) → is_empty cs' ≡ takes_text p' → go ls left (encode p' (of ts' cs')) (k + 1) ≡
    encoded (reads ls left p' (of ts' cs') (k + 1)))
    (last : Bool)
  where
    by_record :
        (n : ℕ) (r : FormatRecord) → Told (seen p (of ts cs)) n r
        → on_record (encode p (of ts cs)) (k + 1) last (λ q. go ls left q (k + 1)) r
        ≡ encoded (follow (of ts cs) (k + 1) last (λ p' im'. reads ls left p' im' (k + 1)) r)
    by_record n (text b) t = rw (step_text p ts b cs (h ∙ t.0)) (after in_texts (ts ++ (b ∷ [])) cs (h ∙ t.0))
    by_record n (opens a m) t = rw (step_chunk p ts a m cs) (after in_constants ts (cs ++ (opened a m ∷ [])) (empty_snoc cs (opened a m)))
    by_record n (constant kind v) t =
        let e : is_empty cs ≡ false = h ∙ constant_no_text p t.0 in
        rw (step_constant p ts kind v cs e) (after in_constants ts (on_open (with_constant kind v) cs) (empty_open (with_constant kind v) cs e))
    by_record n (code b) t =
        let e : is_empty cs ≡ false = h ∙ code_no_text p t.0 in
        rw (step_code p ts b cs e) (after (part_after_code b) ts (on_open (with_code b) cs) (empty_open (with_code b) cs e ∙ sym (after_code_no_text (eqb (length b) 64))))
    by_record n ends t = by_end p ts cs last t
    by_record n (fault f) t = refl

    by_line :
        (x : Line) → LineBytes x
        → on_line (encode p (of ts cs)) (k + 1) last (λ q. go ls left q (k + 1)) x
        ≡ encoded (format_line p (of ts cs) (k + 1) last (λ p' im'. reads ls left p' im' (k + 1)) x)
    by_line faulty b = refl
    by_line (line g f) b =
        rw (same_seen p (of ts cs)) (by_record (length f) (record_of (seen p (of ts cs)) g f) (told (seen p (of ts cs)) f b.0 b.1 g))

same_reading :
    (ls : List (List ℕ)) (left : List ℕ) (p : FormatPart) (ts : List (List ℕ)) (cs : List Chunk) (k : ℕ) → is_empty cs ≡ takes_text p
    → go ls left (encode p (of ts cs)) k ≡ encoded (reads ls left p (of ts cs) k)
unfolding go reads
same_reading [] left p ts cs k h = by (is_empty left)
  where
    by : (u : Bool) → cond u (refuses 6 0) (refuses 2 (k + 1)) ≡ encoded (cond u (refused 6 0) (refused 2 (k + 1)))
    by true = refl
    by false = refl
same_reading (l ∷ ls) left p ts cs k h =
    by_line ls left p ts cs k h (λ p' ts' cs' h'. same_reading ls left p' ts' cs' (k + 1) h') (is_empty ls && is_empty left) (line_of l) (line_bytes l)

starts : start ≡ encode in_texts blank
unfolding encode
starts = refl

pub same_load : (bytes : List ℕ) → load_of bytes ≡ encoded (load_image bytes)
unfolding load_of load_image
same_load bytes = by (leb (length bytes) 65536)
  where
    by : (u : Bool) → cond u (goes (split bytes) start 0) (refuses 1 0) ≡ encoded (cond u (reads (split bytes).lines (split bytes).left in_texts blank 0) (refused 1 0))
    by true = rw starts (same_reading (split bytes).lines (split bytes).left in_texts [] [] 0 refl)
    by false = refl
