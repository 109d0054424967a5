-- One line of an image, what is left of it, and the reading of all lines.
use mathlib.Core.Path.{◌≡◌, refl, sym, ap, ◌∙◌, subst}
use mathlib.Core.Bool.{Bool, true, false, cond, ◌&&◌, ◌||◌}
use mathlib.Core.List.{List, [], ◌∷◌, ◌++◌}
use Prim.Native.Nat.{ℕ, suc, ◌+◌, ◌*◌, ◌-◌, ◌≤◌, ◌<◌}
use native.Mathlib.Omega.{arith}
use borrow.Author.Tests.{lt-ltb, le-ltb, le-leb, lt-leb, ne_eqb}
use lib.Dec.{ltb, eqb}
use lib.ListN.{length, get_or, take, drop, length-drop, take-append-drop, drop_of_length-le}
use lib.Seq.{drop-cons, drop_at, drop-drop, drop-append-le, drop-append-add, length-take-le, take-append-le}
use Rattle.definition.specs.Lines.{is_empty, Split, split, in_front, Line, line, faulty, line_of, Seen, fault, record_of, load_image}
use Rattle.definition.specs.Lines.{Record as FormatRecord}
use Rattle.definition.proofs.Judged.{true_not_false, false_not_true, cond_elim, LineBytes, line_bytes, Told, told}
use Rattle.line_digits.specs.Fields.{read_of, ReadFits}
use Rattle.line_digits.specs.declared.Line.{Line as ReadLine}
use Rattle.line_digits.proofs.Digits.{line_here, line_open}
use Rattle.image_records.specs.Records.{number_of, seen_of, said}
use Rattle.image_records.specs.declared.Reason.{Reason}
use Rattle.image_records.specs.declared.Reason.TheVariants.{TooLong, BadLine, NoEnd, NoSuchChunk, ShortSlice}
use Rattle.image_records.specs.declared.State.{State}
use Rattle.image_records.specs.declared.Record.{Record}
use Rattle.image_records.specs.declared.Record.TheVariants.{Text, Opens, Constant, Code, Ends}
use Rattle.image_store.specs.Stored.{refusal_of, advance, Fine, Accepted, finish_of}
use Rattle.image_store.specs.declared.Progress.TheVariants.{Next, Ready}
use Rattle.image_store.specs.declared.Refusal.{Refusal}
use Rattle.std.proofs.Common.{Option, Some, None, Ok, Err}
use Rattle.std.specs.Prelude.{is_err}
use Rattle.image.specs.Answer.{Slices, slices, holds, refuses, encoded, short, load_in, Behind, BehindMost, blanked, LoadAnswer, Loads}
use Rattle.image.specs.Reading.{
  Parts,
  none_yet,
  grow,
  counts_in,
  on_record,
  on_line,
  go,
  goes,
  load_of,
  held_by,
  parts_of,
  LoadRoomy,
  Sized,
  after_line,
  BehindState,
  AfterLineFits,
  Grows,
  AfterLineLeft,
  AfterLine,
  TakesLine,
  LoadsLines,
  LoadsSettled,
}
use Rattle.image.proofs.Grown.{fine, grown}
use Rattle.image.proofs.Blanking.{blanked_again, blanked_behind}

-- nothing follows
no_line : (x : ℕ) (ls : List (List ℕ)) (left : List ℕ) → (is_empty (in_front x ls left).lines && is_empty (in_front x ls left).left) ≡ false
no_line x [] left = refl
no_line x (l ∷ ls) left = refl

abbrev split_after : ℕ → List ℕ → Bool → Split
split_after x xs t = cond t (record { lines = [] ∷ (split xs).lines; left = (split xs).left }) (in_front x (split xs).lines (split xs).left)

all_read : (l : List ℕ) → (is_empty (split l).lines && is_empty (split l).left) ≡ is_empty l
unfolding split
all_read [] = refl
all_read (x ∷ xs) = either (eqb x 10)
  where
    either : (t : Bool) → (is_empty (split_after x xs t).lines && is_empty (split_after x xs t).left) ≡ false
    either true = refl
    either false = no_line x (split xs).lines (split xs).left

empty_length : (l : List ℕ) → is_empty l ≡ eqb (length l) 0
empty_length [] = refl
empty_length (x ∷ xs) = sym (ne_eqb (suc (length xs)) 0 (λ e. omega arith))

last_line : (image : List ℕ) (j : ℕ) → (is_empty (split (drop j image)).lines && is_empty (split (drop j image)).left) ≡ eqb (length image - j) 0
last_line image j = all_read (drop j image) ∙ empty_length (drop j image) ∙ rw length-drop

-- one line
go_line : (l : List ℕ) (ls : List (List ℕ)) (left : List ℕ) (p : Parts) (k : ℕ) → go (l ∷ ls) left p k ≡ on_line p (k + 1) (is_empty ls && is_empty left)
    (λ q. go ls left q (k + 1)) (line_of l)
unfolding go
go_line l ls left p k = refl

module _ (image : List ℕ) (p : Parts) (at end k : ℕ) (order : at ≤ end) (free : (j : ℕ) → at ≤ j → j < end → get_or image j 0 ≡ 10 → ⊥) where
  one_line :
      end < length image → get_or image end 0 ≡ 10
      → goes (split (drop at image)) p k
      ≡ on_line p (k + 1) (eqb (length image - (end + 1)) 0) (λ q. goes (split (drop (end + 1) image)) q (k + 1)) (line_of (take (end - at) (drop at image)))
  one_line h e =
      ap (λ x. goes x p k) (line_here image at end order free h e)
      ∙ go_line (take (end - at) (drop at image)) (split (drop (end + 1) image)).lines (split (drop (end + 1) image)).left p k
      ∙ rw (last_line image (end + 1))

  no_feed : at < length image → end ≡ length image → refuses 2 (k + 1) ≡ goes (split (drop at image)) p k
  unfolding go
  no_feed h e = rw (line_open image at end order free e, drop-cons image at 0 h)

-- slices that are as they were
pub behind_same : (b e c t : ℕ) (m : Slices) → Behind b e c t m m
behind_same b e c t m = record { same_bytes = refl; same_ends = refl; same_kinds = refl; same_payloads = refl; same_table = refl }

drop_further : (n m : ℕ) (l l' : List ℕ) → n ≤ m → drop n l' ≡ drop n l → drop m l' ≡ drop m l
drop_further n m l l' h e =
    let z : m ≡ n + (m - n) = omega arith in
    rw (z, ← drop-drop (m - n) n l', ← drop-drop (m - n) n l, e)

behind_further :
    (e c t e' c' t' : ℕ) (m m' : Slices) → e ≤ e' → c ≤ c' → t ≤ t' → Behind 32768 e c t m m' → Behind 32768 e' c' t' m m'
behind_further e c t e' c' t' m m' he hc ht b =
    record {
      same_bytes = b.same_bytes;
      same_ends = drop_further e e' m.ends m'.ends he b.same_ends;
      same_kinds = drop_further c c' m.kinds m'.kinds hc b.same_kinds;
      same_payloads = drop_further c c' m.payloads m'.payloads hc b.same_payloads;
      same_table = drop_further t t' m.table m'.table ht b.same_table;
    }

behind_both : (b e c t : ℕ) (m m' m'' : Slices) → Behind b e c t m m' → Behind b e c t m' m'' → Behind b e c t m m''
behind_both b e c t m m' m'' x y =
    record {
      same_bytes = y.same_bytes ∙ x.same_bytes;
      same_ends = y.same_ends ∙ x.same_ends;
      same_kinds = y.same_kinds ∙ x.same_kinds;
      same_payloads = y.same_payloads ∙ x.same_payloads;
      same_table = y.same_table ∙ x.same_table;
    }

-- what the slices held behind the numbers s they hold behind the numbers t
behind_next : (s t : State) (m m' m'' : Slices) → BehindState s m m' → Grows s t → BehindState t m' m'' → BehindState t m m''
behind_next s t m m' m'' x g y =
    let r : 4 * s.rows ≤ 4 * t.rows = omega (arith, g.more_rows) in
    behind_both 32768 t.texts t.constants (4 * t.rows) m m' m''
    (behind_further s.texts s.constants (4 * s.rows) t.texts t.constants (4 * t.rows) m m' g.more_texts g.more_constants r x) y

-- within the named lengths
pub record Within (s : State) : Type 0 where
  pub within_texts : s.texts ≤ 256
  pub within_constants : s.constants ≤ 13107
  pub within_rows : s.rows ≤ 65

sized_within : (s : State) (at : ℕ) → at ≤ 65536 → Sized s at → Within s
sized_within s at h z =
    record {
      within_texts = z.few_texts;
      within_constants = omega (arith, z.few_constants);
      within_rows = omega (arith, z.as_rows, z.few_chunks);
    }

behind_most : (s : State) (m m' : Slices) → Within s → BehindState s m m' → BehindMost m m'
behind_most s m m' w b =
    let r : 4 * s.rows ≤ 260 = omega (arith, w.within_rows) in
    behind_further s.texts s.constants (4 * s.rows) 256 13107 260 m m' w.within_texts w.within_constants r b

-- what a record leads to
module _ (image b : List ℕ) (p : Parts) (t : State) (k next left : ℕ) (last : Bool) (m : Slices) where
  closed : (v w : Bool) → after_line (cond v (cond w (Ok (Ready t)) (Err (refusal_of NoSuchChunk 0))) (Err (refusal_of NoEnd 0))) image k m ≡ cond v (cond w (holds (counts_in t)
      (held_by t m)) (refuses 7 0)) (refuses 6 0)
  closed true true = refl
  closed true false = refl
  closed false w = refl

  settled :
      (r : Record) → last ≡ eqb left 0 → parts_of t m ≡ grow p (said r b)
      → after_line (finish_of (Ok r) t next left (k + 1)) image k m ≡ on_record p (k + 1) last (λ q. goes (split (drop next image)) q (k + 1)) (said r b)
  settled Text e g = ap (λ q. goes (split (drop next image)) q (k + 1)) g
  settled (Opens arity name) e g = ap (λ q. goes (split (drop next image)) q (k + 1)) g
  settled (Constant kind v) e g = ap (λ q. goes (split (drop next image)) q (k + 1)) g
  settled Code e g = ap (λ q. goes (split (drop next image)) q (k + 1)) g
  settled Ends e g = rw (e, ← g) (closed (eqb left 0) (ltb t.named t.chunks))

-- the bounds after a line
module _ (s : State) (b : List ℕ) (at end size : ℕ) (sized : Sized s at) (digits : 2 * (length b + 1) ≡ end - at) (order : at ≤ end) (within : end <
    size) (small : size ≤ 65536) where
  after_fits : (r : Record) (left k : ℕ) → Fine s (length b) (Ok r) → AfterLineFits (finish_of (Ok r) (advance s (said r b)) (end + 1) left k) at size
  after_fits Text left k h = (
    record {
      few_bytes = omega arith;
      few_constants = omega arith;
      few_texts = omega arith;
      few_chunks = sized.few_chunks;
      as_rows = sized.as_rows;
      short_code = sized.short_code;
      few_own = sized.few_own;
    },
    omega arith,
    omega arith,
  )
  after_fits (Opens arity name) left k h = (
    record {
      few_bytes = omega arith;
      few_constants = omega arith;
      few_texts = sized.few_texts;
      few_chunks =
          omega arith;
      as_rows = omega (arith, sized.as_rows);
      short_code = omega arith;
      few_own = omega arith;
    },
    omega arith,
    omega arith,
  )
  after_fits (Constant kind v) left k h = (
    record {
      few_bytes = omega arith;
      few_constants = omega (arith, h.1);
      few_texts = sized.few_texts;
      few_chunks = sized.few_chunks;
      as_rows = sized.as_rows;
      short_code = sized.short_code;
      few_own = omega (arith, h.0);
    },
    omega arith,
    omega
        arith,
  )
  after_fits Code left k h = (
    record {
      few_bytes = omega arith;
      few_constants = omega arith;
      few_texts = sized.few_texts;
      few_chunks = sized.few_chunks;
      as_rows = sized.as_rows;
      short_code = h;
      few_own = sized.few_own;
    },
    omega arith,
    omega arith,
  )
  after_fits Ends left k h =
      cond_elim (λ r. AfterLineFits r at size) (eqb left 0)
      (λ _. cond_elim (λ r. AfterLineFits r at size) (ltb s.named s.chunks) (λ _. omega (arith, sized.as_rows)) (λ _. tt))
      (λ _. tt)

  state_within : (r : Record) → Fine s (length b) (Ok r) → Within (advance s (said r b))
  state_within Text h = record {
    within_texts = omega arith;
    within_constants = omega (arith, sized.few_constants);
    within_rows = omega (
      arith,
      sized.as_rows,
      sized.few_chunks,
    );
  }
  state_within (Opens arity name) h = record {
    within_texts = sized.few_texts;
    within_constants = omega (arith, sized.few_constants);
    within_rows =
        omega (arith, sized.as_rows);
  }
  state_within (Constant kind v) h = record {
    within_texts = sized.few_texts;
    within_constants = omega (arith, sized.few_constants, h.1);
    within_rows = omega (arith, sized.as_rows, sized.few_chunks);
  }
  state_within Code h = record {
    within_texts = sized.few_texts;
    within_constants = omega (arith, sized.few_constants);
    within_rows = omega (
      arith,
      sized.as_rows,
      sized.few_chunks,
    );
  }
  state_within Ends h = record {
    within_texts = sized.few_texts;
    within_constants = omega (arith, sized.few_constants);
    within_rows = omega (
      arith,
      sized.as_rows,
      sized.few_chunks,
    );
  }

grows : (s : State) (b : List ℕ) (r : Record) → Grows s (advance s (said r b))
grows s b Text = record { more_texts = omega arith; more_constants = omega arith; more_rows = omega arith }
grows s b (Opens arity name) = record { more_texts = omega arith; more_constants = omega arith; more_rows = omega arith }
grows s b (Constant kind v) = record { more_texts = omega arith; more_constants = omega arith; more_rows = omega arith }
grows s b Code = record { more_texts = omega arith; more_constants = omega arith; more_rows = omega arith }
grows s b Ends = record { more_texts = omega arith; more_constants = omega arith; more_rows = omega arith }

module _ (s t : State) (m m' : Slices) (g : Grows s t) (b : BehindState t m m') (w : Within t) where
  after_left : (r : Record) (next left k : ℕ) → AfterLineLeft (finish_of (Ok r) t next left k) s m m'
  after_left Text next left k = (g, b)
  after_left (Opens arity name) next left k = (g, b)
  after_left (Constant kind v) next left k = (g, b)
  after_left Code next left k = (g, b)
  after_left Ends next left k =
      cond_elim (λ r. AfterLineLeft r s m m') (eqb left 0)
      (λ _. cond_elim (λ r. AfterLineLeft r s m m') (ltb t.named t.chunks) (λ _. (g, b)) (λ _. behind_most t m m' w b))
      (λ _. behind_most t m m' w b)

-- what a good line gives
pub record ReadGood (image out : List ℕ) (t n at end room : ℕ) : Type 0 where
  pub line_is : line t (take n out) ≡ line_of (take (end - at) (drop at image))
  pub fits : n ≤ room
  pub digits : 2 * (n + 1) ≡ end - at

digits_length : (image : List ℕ) (at end : ℕ) → at ≤ end → end ≤ length image → length (take (end - at) (drop at image)) ≡ end - at
digits_length image at end h g = length-take-le (end - at) (drop at image) (rw length-drop (omega arith))

pub read_good :
    (image out : List ℕ) (r : Option ReadLine) (l : ReadLine) (at end room : ℕ) → r ≡ Some l → at ≤ end → end ≤ length image
    → read_of r out ≡ line_of (take (end - at) (drop at image)) → ReadFits r (length (take (end - at) (drop at image))) room
    → ReadGood image out l.tag l.size at end room
read_good image out r l at end room e h g s f =
    let f' = rw (e, digits_length image at end h g) at f in
    record { line_is = rw e at s; fits = f'.0; digits = f'.1 }

-- the slice with the fields in it
module _ (B out post : List ℕ) (from n : ℕ) (small : from ≤ length B) (room : n ≤ length out) where
  pub fields_are : take (from + n - from) (drop from (take from B ++ (out ++ post))) ≡ take n out
  fields_are =
      let z : from + n - from ≡ n = omega arith in
      rw (z, drop_at (take from B) (out ++ post) from (length-take-le from B small)) (take-append-le n out post room)

-- behind half as many bytes as a line has digits, the slice is as it was
bytes_behind :
    (B out out' post : List ℕ) (from n : ℕ) → from ≤ length B → B ≡ take from B ++ (out ++ post) → length out' ≡ length out → n ≤ length out
    → drop n out' ≡ drop n out → drop (from + n) (take from B ++ (out' ++ post)) ≡ drop (from + n) B
bytes_behind B out out' post from n small whole same room e =
    there out' (rw same room) ∙ ap (λ (x : List ℕ). x ++ post) e ∙ sym (ap (drop (from + n)) whole ∙ there out room)
  where
    there : (o : List ℕ) → n ≤ length o → drop (from + n) (take from B ++ (o ++ post)) ≡ drop n o ++ post
    there o h =
        ap (λ (i : ℕ). drop (i + n) (take from B ++ (o ++ post))) (sym (length-take-le from B small))
        ∙ drop-append-add (take from B) (o ++ post) n
        ∙ drop-append-le n o post h

pub bytes_left :
    (B out' : List ℕ) (from digits : ℕ) → from ≤ 32768 → 32768 ≤ length B → digits ≤ 2 * (32768 - from)
    → length out' ≡ length (take (length B - from) (drop from B))
    → ((n : ℕ) → digits ≤ 2 * n → drop n out' ≡ drop n (take (length B - from) (drop from B)))
    → drop 32768 (take from B ++ (out' ++ drop (length B - from) (drop from B))) ≡ drop 32768 B
bytes_left B out' from digits small room few same behind =
    let z : 32768 ≡ from + (32768 - from) = omega arith in
    let l : length (take (length B - from) (drop from B)) ≡ length B - from = length-take-le (length B - from) (drop from B) (rw length-drop (omega arith)) in
    rw z (bytes_behind B (take (length B - from) (drop from B)) out' (drop (length B - from) (drop from B)) from (32768 - from) (omega arith)
    (sym (ap (λ (x : List ℕ). take from B ++ x) (take-append-drop (length B - from) (drop from B)) ∙ take-append-drop from B)) same (rw l (omega
    arith)) (behind (32768 - from) few))

pub bytes_kept :
    (image B out' : List ℕ) (s : State) (at end : ℕ) → Sized s at → at ≤ end → end ≤ length image → length image ≤ 65536 → 32768 ≤ length B
    → length out' ≡ length (take (length B - s.bytes) (drop s.bytes B))
    → ((n : ℕ) → length (take (end - at) (drop at image)) ≤ 2 * n → drop n out' ≡ drop n (take (length B - s.bytes) (drop s.bytes B)))
    → drop 32768 (take s.bytes B ++ (out' ++ drop (length B - s.bytes) (drop s.bytes B))) ≡ drop 32768 B
bytes_kept image B out' s at end sized order within few room same behind =
    let d = digits_length image at end order within in
    let x = sized.few_bytes in
    bytes_left B out' s.bytes (length (take (end - at) (drop at image))) (omega arith) room (rw d (omega arith)) same behind

-- a line with no line feed, and one that is at fault with 2
pub open_line :
    (image : List ℕ) (s : State) (at end k : ℕ) (m : Slices) → at ≤ end → ((j : ℕ) → at ≤ j → j < end → get_or image j 0 ≡ 10 → ⊥)
    → at < length image → end ≡ length image → TakesLine image s at k m (Err (refusal_of BadLine (k + 1))) m
open_line image s at end k m order free h e =
    record { after = no_feed image (parts_of s m) at end k order free h e; fits = tt; left = behind_same 32768 256 13107 260 m }

pub bad_line :
    (image : List ℕ) (s : State) (r : Option ReadLine) (out : List ℕ) (at end k : ℕ) (m m' : Slices) → r ≡ None → at ≤ end
    → ((j : ℕ) → at ≤ j → j < end → get_or image j 0 ≡ 10 → ⊥) → end < length image → get_or image end 0 ≡ 10
    → read_of r out ≡ line_of (take (end - at) (drop at image)) → BehindMost m m' → TakesLine image s at k m (Err (refusal_of BadLine (k + 1))) m'
bad_line image s r out at end k m m' e order free h f says b =
    let z : faulty ≡ line_of (take (end - at) (drop at image)) = rw e at says in
    record { after = sym (one_line image (parts_of s m) at end k order free h f ∙ rw (← z)); fits = tt; left = b }

line_as : (x y : Line) → x ≡ y → LineBytes y → LineBytes x
line_as x y e h = rw e h

told_as : (s : Seen) (n : ℕ) (x y : FormatRecord) → x ≡ y → Told s n y → Told s n x
told_as s n x y e h = rw e h

-- what a line says where it is not at fault
pub fine_at :
    (image : List ℕ) (s : State) (tag at end : ℕ) (b : List ℕ) (r : Record) → line tag b ≡ line_of (take (end - at) (drop at image))
    → said r b ≡ record_of (seen_of s) tag b → Fine s (length b) (Ok r)
fine_at image s tag at end b r e q =
    let l = line_as (line tag b) (line_of (take (end - at) (drop at image))) e (line_bytes (take (end - at) (drop at image))) in
    fine s b r (told_as (seen_of s) (length b) (said r b) (record_of (seen_of s) tag b) q (told (seen_of s) b l.0 l.1 tag))

fine_as : (s : State) (m n : ℕ) (r : Record) → m ≡ n → Fine s m (Ok r) → Fine s n (Ok r)
fine_as s m n r e h = subst (λ (k : ℕ). Fine s k (Ok r)) e h

pub fine_here :
    (image B out post : List ℕ) (s : State) (at end n tag : ℕ) (r : Record) → s.bytes ≤ length B → n ≤ length out
    → said r (take (s.bytes + n - s.bytes) (drop s.bytes (take s.bytes B ++ (out ++ post)))) ≡ record_of (seen_of s) tag (take (s.bytes + n - s.bytes)
    (drop s.bytes (take s.bytes B ++ (out ++ post))))
    → line tag (take n out) ≡ line_of (take (end - at) (drop at image)) → Fine s n (Ok r)
fine_here image B out post s at end n tag r small room item good =
    fine_as s (length (take n out)) n r (length-take-le n out room)
    (fine_at image s tag at end (take n out) r good (rw (fields_are B out post s.bytes n small room) at item))

-- a good line
module _
    (image B out post e k p t e' k' p' t' : List ℕ) (s s2 : State) (at end n tag ln : ℕ) (r : Record) (u : AfterLine)
    (small : s.bytes ≤ length B) (room : n ≤ length out)
    (order : at ≤ end) (h : end < length image)
    (item : said r (take (s.bytes + n - s.bytes) (drop s.bytes (take s.bytes B ++ (out ++ post)))) ≡ record_of (seen_of s) tag (take (s.bytes +
    n - s.bytes) (drop s.bytes (take s.bytes B ++ (out ++ post)))))
    (took : Accepted s (Ok r) n e k p t s2 e' k' p' t')
    (res : u ≡ finish_of (Ok r) s2 (end + 1) (length image - (end + 1)) (ln + 1))
    (free : (j : ℕ) → at ≤ j → j < end → get_or image j 0 ≡ 10 → ⊥) (feed : get_or image end 0 ≡ 10)
    (good : line tag (take n out) ≡ line_of (take (end - at) (drop at image)))
    (digits : 2 * (n + 1) ≡ end - at)
    (sized : Sized s at) (few : length image ≤ 65536)
    (kept : drop 32768 (take s.bytes B ++ (out ++ post)) ≡ drop 32768 B)
  where
    abbrev before : Slices
    before = record { bytes = B; ends = e; kinds = k; payloads = p; table = t }

    abbrev after : Slices
    after = record { bytes = take s.bytes B ++ (out ++ post); ends = e'; kinds = k'; payloads = p'; table = t' }

    told_there : said r (take n out) ≡ record_of (seen_of s) tag (take n out)
    told_there = rw (fields_are B out post s.bytes n small room) at item

    long : length (take n out) ≡ n
    long = length-take-le n out room

    turned : after_line u image ln after ≡ goes (split (drop at image)) (parts_of s before) ln
    turned =
        rw res
        (settled image (take n out) (parts_of s before) s2 ln (end + 1) (length image - (end + 1)) (eqb (length image - (end + 1)) 0) after r refl
        (grown r s s2 n (take n out) B (out ++ post) e k p t e' k' p' t' small (sym (take-append-le n out post room)) long took))
        ∙ ap (on_record (parts_of s before) (ln + 1) (eqb (length image - (end + 1)) 0) (λ q. goes (split (drop (end + 1) image)) q (ln + 1))) told_there
        ∙ sym (one_line image (parts_of s before) at end ln order free h feed ∙ rw (← good))

    keeps : Fine s (length (take n out)) (Ok r)
    keeps = fine_at image s tag at end (take n out) r good told_there

    state : s2 ≡ advance s (said r (take n out))
    state = took.numbers (take n out) long

    two : 2 * (length (take n out) + 1) ≡ end - at
    two = rw long digits

    pub line_taken : TakesLine image s at ln before u after
    line_taken =
        record {
          after = turned;
          fits = rw (res, state) (after_fits s (take n out) at end (length image) sized two order h few r (length image - (end + 1)) (ln + 1) keeps);
          left =
              rw res
              (after_left s s2 before after (rw state (grows s (take n out) r))
              (record { same_bytes = kept; same_ends = took.behind_ends; same_kinds = took.behind_kinds; same_payloads = took.behind_payloads; same_table = took.behind_table })
              (rw state (state_within s (take n out) at end (length image) sized two order h few r keeps)) r (end + 1) (length image - (end + 1)) (ln + 1));
        }

-- a line that is at fault
pub fault_line :
    (image B out post e k p t : List ℕ) (s : State) (at end n tag ln : ℕ) (f : Reason) → s.bytes ≤ length B → n ≤ length out → at ≤ end → end < length image
    → fault (number_of f) ≡ record_of (seen_of s) tag (take (s.bytes + n - s.bytes) (drop s.bytes (take s.bytes B ++ (out ++ post))))
    → ((j : ℕ) → at ≤ j → j < end → get_or image j 0 ≡ 10 → ⊥) → get_or image end 0 ≡ 10 → line tag (take n out) ≡ line_of (take (end - at) (drop at image))
    → drop 32768 (take s.bytes B ++ (out ++ post)) ≡ drop 32768 B
    → TakesLine image s at ln (slices B e k p t) (Err (refusal_of f (ln + 1))) (slices (take s.bytes B ++ (out ++ post)) e k p t)
fault_line image B out post e k p t s at end n tag ln f small room order h item free feed good kept =
    let there = rw (fields_are B out post s.bytes n small room) at item in
    record {
      after = sym (one_line image (parts_of s (slices B e k p t)) at end ln order free h feed ∙ rw (← good, ← there));
      fits = tt;
      left = record { same_bytes = kept; same_ends = refl; same_kinds = refl; same_payloads = refl; same_table = refl };
    }

-- between two lines: m₀ are the slices as they were at first
pub record Reading (image : List ℕ) (m₀ m : Slices) (s : State) (at k : ℕ) : Type 0 where
  pub here : goes (split (drop at image)) (parts_of s m) k ≡ load_of image
  pub sized : Sized s at
  pub within : at ≤ length image
  pub counted : k ≤ at
  pub behind : BehindState s m₀ m

pub reading_start : (image : List ℕ) (m : Slices) → length image ≤ 65536 → Reading image m m none_yet 0 0
unfolding load_of
reading_start image m h =
    record {
      here = rw (le-leb (length image) 65536 h);
      sized = record {
        few_bytes = omega arith;
        few_constants = omega arith;
        few_texts = omega arith;
        few_chunks = omega arith;
        as_rows = refl;
        short_code = omega arith;
        few_own = omega arith;
      };
      within = omega arith;
      counted = omega arith;
      behind = behind_same 32768 0 0 0 m;
    }

module _
    (image : List ℕ) (m₀ m m' : Slices) (s : State) (at k : ℕ) (u : AfterLine)
    (was : Reading image m₀ m s at k) (took : TakesLine image s at k m u m')
  where
    pub reading_next : (t : State) (next : ℕ) → u ≡ Ok (Next t next) → Reading image m₀ m' t next (k + 1)
    reading_next t next q =
        let f = rw q at took.fits in
        let b = rw q at took.left in
        let g = was.counted in
        record {
          here = (rw q at took.after) ∙ was.here;
          sized = f.0;
          within = f.2;
          counted = omega (arith, f.1);
          behind = behind_next s t m₀ m m' was.behind b.0 b.1;
        }

    pub reading_ready : (t : State) → u ≡ Ok (Ready t) → LoadsLines image m₀ (Ok (counts_in t)) m'
    reading_ready t q =
        let f = rw q at took.fits in
        let b = rw q at took.left in
        let z : 4 * (t.chunks + 1) ≡ 4 * t.rows = omega (arith, f) in
        record {
          answer = rw z ((rw q at took.after) ∙ was.here);
          left = rw z (behind_next s t m₀ m m' was.behind b.0 b.1);
        }

    pub reading_stop : (f : Refusal) → u ≡ Err f → length image ≤ 65536 → LoadsLines image m₀ (Err f) m'
    reading_stop f q h =
        let n : at ≤ 65536 = omega (arith, was.within) in
        record {
          answer = (rw q at took.after) ∙ was.here;
          left = behind_both 32768 256 13107 260 m₀ m m' (behind_most s m₀ m (sized_within s at n was.sized) was.behind) (rw q at took.left);
        }

no_lines : (image : List ℕ) (p : Parts) (at k : ℕ) → length image ≤ at → goes (split (drop at image)) p k ≡ refuses 6 0
unfolding go split
no_lines image p at k h = rw (drop_of_length-le image h)

pub reading_end : (image : List ℕ) (m₀ m : Slices) (s : State) (at k : ℕ) → Reading image m₀ m s at k → length image ≤ at → length image ≤ 65536 →
    LoadsLines image m₀ (Err (refusal_of NoEnd 0)) m
reading_end image m₀ m s at k was h g =
    let n : at ≤ 65536 = omega (arith, was.within) in
    record {
      answer = sym (no_lines image (parts_of s m) at k h) ∙ was.here;
      left = behind_most s m₀ m (sized_within s at n was.sized) was.behind;
    }

-- short work slices, an image that is too long, and all others
pub loads_short : (image : List ℕ) (m : Slices) → short m ≡ true → Loads image m (Err (refusal_of ShortSlice 0)) m
unfolding load_in
loads_short image m e =
    record {
      answer = rw e;
      left = behind_same 32768 256 13107 260 m;
      short_same = λ _. refl;
      long_same = λ _. refl;
      refused_blank = λ q _. true_not_false (sym e ∙ q);
    }

pub not_short : (m : Slices) → LoadRoomy m → short m ≡ false
not_short m r =
    rw (
      le-ltb (length m.bytes) 32768 r.room_bytes,
      le-ltb (length m.ends) 256 r.room_ends,
      le-ltb (length m.kinds) 13107 r.room_kinds,
      le-ltb (length m.payloads) 13107 r.room_payloads,
      le-ltb (length m.table) 260 r.room_table,
    )

short_or : (a b : Bool) → b ≡ true → (a || b) ≡ true
short_or true b e = refl
short_or false b e = e

or_short : (a b : Bool) → a ≡ true → (a || b) ≡ true
or_short true b e = refl
or_short false b e = false_not_true e

module _ (m : Slices) where
  abbrev first_two : Bool
  first_two = ltb (length m.bytes) 32768 || ltb (length m.ends) 256

  abbrev first_three : Bool
  first_three = first_two || ltb (length m.kinds) 13107

  abbrev first_four : Bool
  first_four = first_three || ltb (length m.payloads) 13107

  up : first_two ≡ true → short m ≡ true
  up e = or_short first_four (ltb (length m.table) 260) (or_short first_three (ltb (length m.payloads) 13107) (or_short first_two (ltb (length m.kinds) 13107) e))

  pub short_bytes : length m.bytes < 32768 → short m ≡ true
  short_bytes h = up (or_short (ltb (length m.bytes) 32768) (ltb (length m.ends) 256) (lt-ltb (length m.bytes) 32768 h))

  pub short_ends : length m.ends < 256 → short m ≡ true
  short_ends h = up (short_or (ltb (length m.bytes) 32768) (ltb (length m.ends) 256) (lt-ltb (length m.ends) 256 h))

  pub short_kinds : length m.kinds < 13107 → short m ≡ true
  short_kinds h =
      or_short first_four (ltb (length m.table) 260)
      (or_short first_three (ltb (length m.payloads) 13107) (short_or first_two (ltb (length m.kinds) 13107) (lt-ltb (length m.kinds) 13107 h)))

  pub short_payloads : length m.payloads < 13107 → short m ≡ true
  short_payloads h = or_short first_four (ltb (length m.table) 260) (short_or first_three (ltb (length m.payloads) 13107) (lt-ltb (length m.payloads) 13107 h))

  pub short_table : length m.table < 260 → short m ≡ true
  short_table h = short_or first_four (ltb (length m.table) 260) (lt-ltb (length m.table) 260 h)

pub loads_long : (image : List ℕ) (m : Slices) → LoadRoomy m → 65536 < length image → Loads image m (Err (refusal_of TooLong 0)) m
unfolding load_in load_image
loads_long image m r h =
    record {
      answer = rw (not_short m r, lt-leb (length image) 65536 h);
      left = behind_same 32768 256 13107 260 m;
      short_same = λ _. refl;
      long_same = λ _. refl;
      refused_blank = λ _ g. absurd (apart g);
    }
  where
    apart : length image ≤ 65536 → ⊥
    apart g = omega arith

-- a refused image is blanked; behind the named lengths the slices were the same before that
pub settled_refused : (image : List ℕ) (m m₁ m₂ : Slices) (r : LoadAnswer) → LoadsLines image m r m₁ → is_err r ≡ true → m₂ ≡ blanked m₁ → LoadsSettled image m r m₂
settled_refused image m m₁ m₂ (Ok n) l e b = false_not_true e
settled_refused image m m₁ m₂ (Err f) l e b =
    let same : m₂ ≡ blanked m = b ∙ blanked_again m m₁ l.left in
    record { lines = record { answer = l.answer; left = rw same (blanked_behind m) }; blank = same }

pub loads_whole :
    (image : List ℕ) (m m' : Slices) (r : LoadAnswer) → LoadRoomy m → length image ≤ 65536 → load_of image ≡ encoded (load_image image) → LoadsSettled image m r m'
    → Loads image m r m'
unfolding load_in
loads_whole image m m' r roomy h e l =
    record {
      answer = rw (not_short m roomy) (l.lines.answer ∙ e);
      left = l.lines.left;
      short_same = λ q. true_not_false (sym q ∙ not_short m roomy);
      long_same = λ q. absurd (apart q);
      refused_blank = λ _ _. l.blank;
    }
  where
    apart : 65536 < length image → ⊥
    apart q = omega arith

-- the same of the slices that the tables were made of
pub loads_in :
    {image : List ℕ} {m : Slices} {r : LoadAnswer} {b e k p t e' k' p' t' : List ℕ} → e' ≡ e → k' ≡ k → p' ≡ p → t' ≡ t → Loads image m r (slices b e k p t)
    → Loads image m r (slices b e' k' p' t')
loads_in q s u v l = rw (q, s, u, v) l
