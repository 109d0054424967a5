-- The reading of an image, line after line, over the work slices: what the crate's own functions are held to. proofs/Nested.antt shows that
-- it gives the image that document 01 describes.
use Rattle.std.specs.Prelude.{◌≡◌, Bool, cond, ◌&&◌, List, [], ◌∷◌, ◌++◌, ℕ, ◌+◌, ◌*◌, ◌≤◌, ◌<◌, length, take, drop, ltb, leb, Result, Ok, Err}
use Rattle.definition.specs.Lines.{is_empty, Split, split, Line, line, faulty, line_of, text, opens, constant, code, ends, fault, record_of}
use Rattle.definition.specs.Lines.{Record as FormatRecord}
use Rattle.image_records.specs.Records.{number_of, seen_of}
use Rattle.image_records.specs.declared.Part.TheVariants.{InTexts}
use Rattle.image_records.specs.declared.State.{State}
use Rattle.image_store.specs.Stored.{advance, new_ends, new_kinds, new_payloads, new_row}
use Rattle.image_store.specs.declared.Progress.{Progress}
use Rattle.image_store.specs.declared.Progress.TheVariants.{Next, Ready}
use Rattle.image_store.specs.declared.Refusal.{Refusal}
use Rattle.image_store.specs.declared.Tables.{Tables}
use Rattle.image.specs.Answer.{Slices, slices, Outcome, holds, refuses, outcome_of, Behind, BehindMost, Left, Blanked, LoadAnswer}
use Rattle.image.specs.declared.Counts.{Counts}

-- what was read so far: the numbers, and what the slices hold of it
pub record Parts : Type 0 where
  pub numbers : State
  pub held : Slices

abbrev pub none_yet : State
none_yet =
    record { part = InTexts; texts = 0; chunks = 0; own = 0; code = 0; named = 0; constants = 0; bytes = 0; rows = 0 }

abbrev pub start : Parts
start = record { numbers = none_yet; held = record { bytes = []; ends = []; kinds = []; payloads = []; table = [] } }

-- the bytes that a record adds; what it adds to the other slices is said in image_store, specs/Stored.antt
abbrev pub new_bytes : FormatRecord → List ℕ
new_bytes (text b) = b
new_bytes (opens arity name) = []
new_bytes (constant kind v) = []
new_bytes (code b) = b
new_bytes ends = []
new_bytes (fault n) = []

unfoldable pub grow : Parts → FormatRecord → Parts
grow p r =
    record {
      numbers = advance p.numbers r;
      held =
          record {
            bytes = p.held.bytes ++ new_bytes r;
            ends = p.held.ends ++ new_ends p.numbers r;
            kinds = p.held.kinds ++ new_kinds r;
            payloads = p.held.payloads ++ new_payloads r;
            table = p.held.table ++ new_row p.numbers r;
          };
    }

abbrev pub counts_in : State → Counts
counts_in s = record { texts = s.texts; chunks = s.chunks; constants = s.constants; bytes = s.bytes }

-- after 05: nothing may follow, and each Function names a chunk
abbrev pub closing : Parts → Bool → Outcome
closing p last =
    cond last (cond (ltb p.numbers.named p.numbers.chunks) (holds (counts_in p.numbers) p.held) (refuses 7 0)) (refuses 6 0)

abbrev pub on_record : Parts → ℕ → Bool → (Parts → Outcome) → FormatRecord → Outcome
on_record p k last rest (text b) = rest (grow p (text b))
on_record p k last rest (opens arity name) = rest (grow p (opens arity name))
on_record p k last rest (constant kind v) = rest (grow p (constant kind v))
on_record p k last rest (code b) = rest (grow p (code b))
on_record p k last rest ends = closing (grow p ends) last
on_record p k last rest (fault n) = refuses n k

-- line k
abbrev pub on_line : Parts → ℕ → Bool → (Parts → Outcome) → Line → Outcome
on_line p k last rest faulty = refuses 2 k
on_line p k last rest (line t b) = on_record p k last rest (record_of (seen_of p.numbers) t b)

-- the lines after line k, with what is left after the last line feed
unfoldable pub go : List (List ℕ) → List ℕ → Parts → ℕ → Outcome
go [] left p k = cond (is_empty left) (refuses 6 0) (refuses 2 (k + 1))
go (l ∷ ls) left p k = on_line p (k + 1) (is_empty ls && is_empty left) (λ q. go ls left q (k + 1)) (line_of l)

abbrev pub goes : Split → Parts → ℕ → Outcome
goes x p k = go x.lines x.left p k

unfoldable pub load_of : List ℕ → Outcome
load_of image = cond (leb (length image) 65536) (goes (split image) start 0) (refuses 1 0)

-- what work slices hold as far as the numbers say
abbrev pub held_by : State → Slices → Slices
held_by s m =
    record {
      bytes = take s.bytes m.bytes;
      ends = take s.texts m.ends;
      kinds = take s.constants m.kinds;
      payloads = take s.constants m.payloads;
      table = take (4 * s.rows) m.table;
    }

abbrev pub parts_of : State → Slices → Parts
parts_of s m = record { numbers = s; held = held_by s m }

-- the five work slices: the bytes, and the tables
abbrev pub work : List ℕ → Tables → Slices
work b t = slices b t.ends.now t.kinds.now t.payloads.now t.table.now

-- the lengths that the work slices have to have; those of `Tables` have them
pub record LoadRoomy (m : Slices) : Type 0 where
  pub room_bytes : 32768 ≤ length m.bytes
  pub room_ends : 256 ≤ length m.ends
  pub room_kinds : 13107 ≤ length m.kinds
  pub room_payloads : 13107 ≤ length m.payloads
  pub room_table : 260 ≤ length m.table

-- what the numbers keep at an offset of the image
pub record Sized (s : State) (at : ℕ) : Type 0 where
  pub few_bytes : 2 * s.bytes ≤ at
  pub few_constants : 5 * s.constants ≤ at
  pub few_texts : s.texts ≤ 256
  pub few_chunks : s.chunks ≤ 64
  pub as_rows : s.rows ≡ s.chunks
  pub short_code : s.code ≤ 4096
  pub few_own : s.own ≤ 256

-- what a line leads to: the next line, a loaded image, or a refusal
abbrev pub AfterLine : Type 0
AfterLine = Result Progress Refusal

-- what comes after a line, with the work slices as they are left
abbrev pub after_line : AfterLine → List ℕ → ℕ → Slices → Outcome
after_line (Ok (Next s at)) image k m = goes (split (drop at image)) (parts_of s m) (k + 1)
after_line (Ok (Ready s)) image k m = holds (counts_in s) (held_by s m)
after_line (Err f) image k m = refuses (number_of f.reason) f.line

-- from what the numbers say on, the slices are as they were
abbrev pub BehindState : State → Slices → Slices → Type 0
BehindState s m m' = Behind 32768 s.texts s.constants (4 * s.rows) m m'

-- the bounds after a line, and what the slices keep
abbrev pub AfterLineFits : AfterLine → ℕ → ℕ → Type 0
AfterLineFits (Ok (Next s next)) at size = Sized s next × (at < next) × (next ≤ size)
AfterLineFits (Ok (Ready s)) at size = s.rows ≡ s.chunks + 1
AfterLineFits (Err f) at size = Unit

pub record Grows (s t : State) : Type 0 where
  pub more_texts : s.texts ≤ t.texts
  pub more_constants : s.constants ≤ t.constants
  pub more_rows : s.rows ≤ t.rows

abbrev pub AfterLineLeft : AfterLine → State → Slices → Slices → Type 0
AfterLineLeft (Ok (Next t next)) s m m' = Grows s t × BehindState t m m'
AfterLineLeft (Ok (Ready t)) s m m' = Grows s t × BehindState t m m'
AfterLineLeft (Err f) s m m' = BehindMost m m'

pub record TakesLine (image : List ℕ) (s : State) (at k : ℕ) (m : Slices) (u : AfterLine) (m' : Slices) : Type 0 where
  pub after : after_line u image k m' ≡ goes (split (drop at image)) (parts_of s m) k
  pub fits : AfterLineFits u at (length image)
  pub left : AfterLineLeft u s m m'

-- all lines of an image that is not too long, in slices that are long enough
pub record LoadsLines (image : List ℕ) (m : Slices) (r : LoadAnswer) (m' : Slices) : Type 0 where
  pub answer : outcome_of r m' ≡ load_of image
  pub left : Left r m m'

-- all lines, and nothing left of a refused image
pub record LoadsSettled (image : List ℕ) (m : Slices) (r : LoadAnswer) (m' : Slices) : Type 0 where
  pub lines : LoadsLines image m r m'
  pub blank : Blanked r m m'
