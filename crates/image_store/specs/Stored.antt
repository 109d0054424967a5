-- What a line's record leaves in the work slices and in the numbers that say how much they hold, and what comes after it.
use Rattle.std.specs.Prelude.{◌≡◌, cond, List, [], ◌∷◌, ◌++◌, ℕ, ◌+◌, ◌*◌, ◌≤◌, ◌<◌, length, take, drop, ltb, eqb, Result, Ok, Err}
use Rattle.definition.specs.Lines.{text, opens, constant, code, ends, fault}
use Rattle.definition.specs.Lines.{Record as FormatRecord}
use Rattle.image_records.specs.Records.{says}
use Rattle.image_records.specs.declared.Reason.{Reason}
use Rattle.image_records.specs.declared.Reason.TheVariants.{NoEnd, NoSuchChunk}
use Rattle.image_records.specs.declared.Part.{Part}
use Rattle.image_records.specs.declared.Part.TheVariants.{InTexts, InConstants, InCode, AfterShort}
use Rattle.image_records.specs.declared.State.{State}
use Rattle.image_records.specs.declared.Record.{Record}
use Rattle.image_records.specs.declared.Record.TheVariants.{Text, Opens, Constant, Code, Ends}
use Rattle.image_store.specs.declared.Progress.{Progress}
use Rattle.image_store.specs.declared.Progress.TheVariants.{Next, Ready}
use Rattle.image_store.specs.declared.Refusal.{Refusal}

-- a refusal for this reason, at this line; 0 where no line is at fault
abbrev pub refusal_of : Reason → ℕ → Refusal
refusal_of r k = record { reason = r; line = k }

-- the numbers after a text of n bytes, a chunk, a constant, n bytes of code, the end
abbrev pub after_text : State → ℕ → State
after_text s n =
    record {
      part = InTexts;
      texts = s.texts + 1;
      chunks = s.chunks;
      own = s.own;
      code = s.code;
      named = s.named;
      constants = s.constants;
      bytes = s.bytes + n;
      rows = s.rows;
    }

abbrev pub after_chunk : State → State
after_chunk s =
    record {
      part = InConstants;
      texts = s.texts;
      chunks = s.chunks + 1;
      own = 0;
      code = 0;
      named = s.named;
      constants = s.constants;
      bytes = s.bytes;
      rows = s.rows + 1;
    }

-- the highest chunk number that a Function names, 0 where there is none
abbrev pub named_by : ℕ → ℕ → ℕ → ℕ
named_by named kind v = cond (eqb kind 20) (cond (ltb named v) v named) named

abbrev pub after_constant : State → ℕ → ℕ → State
after_constant s kind v =
    record {
      part = InConstants;
      texts = s.texts;
      chunks = s.chunks;
      own = s.own + 1;
      code = s.code;
      named = named_by s.named kind v;
      constants = s.constants + 1;
      bytes = s.bytes;
      rows = s.rows;
    }

abbrev pub part_after : ℕ → Part
part_after n = cond (eqb n 64) InCode AfterShort

abbrev pub after_code : State → ℕ → State
after_code s n =
    record {
      part = part_after n;
      texts = s.texts;
      chunks = s.chunks;
      own = s.own;
      code = s.code + n;
      named = s.named;
      constants = s.constants;
      bytes = s.bytes + n;
      rows = s.rows;
    }

abbrev pub after_end : State → State
after_end s =
    record {
      part = s.part;
      texts = s.texts;
      chunks = s.chunks;
      own = s.own;
      code = s.code;
      named = s.named;
      constants = s.constants;
      bytes = s.bytes;
      rows = s.rows + 1;
    }

-- a record more
abbrev pub advance : State → FormatRecord → State
advance s (text b) = after_text s (length b)
advance s (opens arity name) = after_chunk s
advance s (constant kind v) = after_constant s kind v
advance s (code b) = after_code s (length b)
advance s ends = after_end s
advance s (fault n) = s

abbrev pub new_ends : State → FormatRecord → List ℕ
new_ends s (text b) = (s.bytes + length b) ∷ []
new_ends s (opens arity name) = []
new_ends s (constant kind v) = []
new_ends s (code b) = []
new_ends s ends = []
new_ends s (fault n) = []

abbrev pub new_kinds : FormatRecord → List ℕ
new_kinds (text b) = []
new_kinds (opens arity name) = []
new_kinds (constant kind v) = kind ∷ []
new_kinds (code b) = []
new_kinds ends = []
new_kinds (fault n) = []

abbrev pub new_payloads : FormatRecord → List ℕ
new_payloads (text b) = []
new_payloads (opens arity name) = []
new_payloads (constant kind v) = v ∷ []
new_payloads (code b) = []
new_payloads ends = []
new_payloads (fault n) = []

abbrev pub new_row : State → FormatRecord → List ℕ
new_row s (text b) = []
new_row s (opens arity name) = arity ∷ name ∷ s.constants ∷ s.bytes ∷ []
new_row s (constant kind v) = []
new_row s (code b) = []
new_row s ends = 0 ∷ 0 ∷ s.constants ∷ s.bytes ∷ []
new_row s (fault n) = []

-- what a line with n bytes of fields has kept that says this
abbrev pub Fine : State → ℕ → Result Record Reason → Type 0
Fine s n (Ok Text) = s.texts < 256
Fine s n (Ok (Opens arity name)) = s.chunks < 64
Fine s n (Ok (Constant kind v)) = (s.own < 256) × (0 < n)
Fine s n (Ok Code) = s.code + n ≤ 4096
Fine s n (Ok Ends) = Unit
Fine s n (Err f) = Unit

pub record CanAccept (s : State) (r : Result Record Reason) (n : ℕ) : Type 0 where
  pub few_bytes : s.bytes + n ≤ 32768
  pub few_constants : s.constants < 13107
  pub few_texts : s.texts ≤ 256
  pub few_chunks : s.chunks ≤ 64
  pub as_rows : s.rows ≡ s.chunks
  pub short_code : s.code ≤ 4096
  pub few_own : s.own ≤ 256
  pub fine : Fine s n r

-- the numbers and the slices after it, for any fields b, n in number
pub record Accepted (s : State) (r : Result Record Reason) (n : ℕ) (ends kinds payloads table : List ℕ) (t : State) (ends' kinds' payloads' table' : List ℕ) : Type 0 where
  pub numbers : (b : List ℕ) → length b ≡ n → t ≡ advance s (says r b)
  pub ended : (b : List ℕ) → length b ≡ n → take t.texts ends' ≡ take s.texts ends ++ new_ends s (says r b)
  pub kinded : (b : List ℕ) → take t.constants kinds' ≡ take s.constants kinds ++ new_kinds (says r b)
  pub paid : (b : List ℕ) → take t.constants payloads' ≡ take s.constants payloads ++ new_payloads (says r b)
  pub rowed : (b : List ℕ) → take (4 * t.rows) table' ≡ take (4 * s.rows) table ++ new_row s (says r b)
  pub behind_ends : drop t.texts ends' ≡ drop t.texts ends
  pub behind_kinds : drop t.constants kinds' ≡ drop t.constants kinds
  pub behind_payloads : drop t.constants payloads' ≡ drop t.constants payloads
  pub behind_table : drop (4 * t.rows) table' ≡ drop (4 * t.rows) table

-- what comes after a line k that says r: s are the numbers after it, `next` is where the next line begins, and `left` bytes follow
abbrev pub finish_of : Result Record Reason → State → ℕ → ℕ → ℕ → Result Progress Refusal
finish_of (Ok Text) s next left k = Ok (Next s next)
finish_of (Ok (Opens arity name)) s next left k = Ok (Next s next)
finish_of (Ok (Constant kind v)) s next left k = Ok (Next s next)
finish_of (Ok Code) s next left k = Ok (Next s next)
finish_of (Ok Ends) s next left k = cond (eqb left 0) (cond (ltb s.named s.chunks) (Ok (Ready s)) (Err (refusal_of NoSuchChunk 0))) (Err (refusal_of NoEnd 0))
finish_of (Err f) s next left k = Err (refusal_of f k)
