-- A line as the reader of its digits leaves it.
use Rattle.std.specs.Prelude.{◌≡◌, cond, ◌&&◌, List, [], ◌∷◌, ◌++◌, ℕ, ◌+◌, ◌*◌, ◌%◌, ◌≤◌, ltb, leb, eqb, length, take, drop, Option, Some, None}
use Rattle.definition.specs.Lines.{digit, line, faulty}
use Rattle.definition.specs.Lines.{Line as FormatLine}
use Rattle.line_digits.specs.declared.Line.{Line}

-- a digit's value, and 16 of any other byte, as the definition has it
abbrev pub digit_of : Option ℕ → ℕ
digit_of None = 16
digit_of (Some v) = v

-- the byte of two digits
abbrev pub pair_of : ℕ → ℕ → Option ℕ
pair_of a b = cond (ltb (digit a) 16 && ltb (digit b) 16) (Some (digit a * 16 + digit b)) None

-- what a line reader's answer says, with the slice that has the fields
abbrev pub read_of : Option Line → List ℕ → FormatLine
read_of (Some r) l = line r.tag (take r.size l)
read_of None l = faulty

-- the fields fit the slice, and have two digits each
abbrev pub ReadFits : Option Line → ℕ → ℕ → Type 0
ReadFits (Some r) digits room = (r.size ≤ room) × (2 * (r.size + 1) ≡ digits)
ReadFits None digits room = Unit

-- the bytes that pairs of digits are, up to the first pair in which one is no digit
unfoldable pub decoded : List ℕ → List ℕ
decoded [] = []
decoded (a ∷ []) = []
decoded (a ∷ b ∷ ds) = cond (ltb (digit a) 16 && ltb (digit b) 16) ((digit a * 16 + digit b) ∷ decoded ds) []

-- what is written of a line: nothing where its digits are over 512 or odd in number; else its fields, up to the first that is at fault
unfoldable pub written : List ℕ → List ℕ
written l = cond (leb (length l) 512 && eqb (length l % 2) 0) (drop 1 (decoded l)) []

-- these bytes over the first ones of a slice; the rest of it is as it was
abbrev pub over : List ℕ → List ℕ → List ℕ
over w l = w ++ drop (length w) l
