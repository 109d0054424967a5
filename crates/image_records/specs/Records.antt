-- What a line says, as the definition has it, and the numbers of the refusals.
use Rattle.std.specs.Prelude.{cond, List, ℕ, Option, Some, None, Result, Ok, Err}
use Rattle.definition.specs.Lines.{listed, width_of, Seen, text, opens, constant, code, ends, fault, in_texts, in_constants, in_code, after_short}
use Rattle.definition.specs.Lines.{Part as FormatPart, Record as FormatRecord}
use Rattle.kinds.specs.Codes.{code_of}
use Rattle.kinds.specs.declared.Kind.{Kind}
use Rattle.image_records.specs.declared.Reason.{Reason}
use Rattle.image_records.specs.declared.Reason.TheVariants.{TooLong, BadLine, OutOfOrder, BadField, TooMany, NoEnd, NoSuchChunk, ShortSlice}
use Rattle.image_records.specs.declared.Part.{Part}
use Rattle.image_records.specs.declared.Part.TheVariants.{InTexts, InConstants, InCode, AfterShort}
use Rattle.image_records.specs.declared.State.{State}
use Rattle.image_records.specs.declared.Record.{Record}
use Rattle.image_records.specs.declared.Record.TheVariants.{Text, Opens, Constant, Code, Ends}

-- document 01's number of a refusal
abbrev pub number_of : Reason → ℕ
number_of TooLong = 1
number_of BadLine = 2
number_of OutOfOrder = 3
number_of BadField = 4
number_of TooMany = 5
number_of NoEnd = 6
number_of NoSuchChunk = 7
number_of ShortSlice = 9

-- the code's types as the definition's
abbrev pub part_of : Part → FormatPart
part_of InTexts = in_texts
part_of InConstants = in_constants
part_of InCode = in_code
part_of AfterShort = after_short

abbrev pub seen_of : State → Seen
seen_of s = record { part = part_of s.part; texts = s.texts; chunks = s.chunks; constants = s.own; code = s.code }

-- what a record says with the fields b
abbrev pub said : Record → List ℕ → FormatRecord
said Text b = text b
said (Opens arity name) b = opens arity name
said (Constant kind v) b = constant kind v
said Code b = code b
said Ends b = ends

-- what a line says, or its fault
abbrev pub says : Result Record Reason → List ℕ → FormatRecord
says (Ok r) b = said r b
says (Err f) b = fault (number_of f)

-- how many bytes the payload of a constant of this kind has; none where no constant is of that kind
abbrev pub width_in : Kind → Option ℕ
width_in k = cond (listed (code_of k)) (Some (width_of (code_of k))) None
