-- The cases of a list, one after another.
use Rattle.std.specs.Prelude.{◌≡◌, None, Some, Option, Bool, true, false, ◌&&◌, ◌==◌, List, [], ℕ, zero, suc, ◌+◌, ◌<◌, ◌++◌, length, take, drop, get_or}
use Rattle.std.specs.List.{list_any}
use Rattle.case_list.specs.declared.Case.{Case}
use Rattle.case_list.specs.declared.Cases.{Cases}

-- whether a byte is one of the marks
abbrev pub is_mark : List ℕ → ℕ → Bool
is_mark marks x = list_any (λ m. m == x) marks

-- whether a line begins at a place: the list does there, or a line feed stands before it
abbrev pub line_begins : List ℕ → ℕ → Bool
line_begins l zero = true
line_begins l (suc k) = get_or l k 0 == 10

-- whether the line of an answer begins there: a line does, and with a mark
abbrev pub answer_begins : Cases → ℕ → Bool
answer_begins s k = line_begins s.list.now k && is_mark s.marks.now (get_or s.list.now k 0)

-- the first line of an answer begins at n; or n is the list's length, and it has none
abbrev pub IsFirstAnswer : Cases → ℕ → Type 0
IsFirstAnswer s n = ((k : ℕ) → k < n → answer_begins s k ≡ false) × (n < length s.list.now → answer_begins s n ≡ true)

-- a case is what the list begins with, the image and behind it the line of the answer, and what follows is left, without the line feed between;
-- there is none where nothing is left. The line of the answer is the first that begins with a mark, and the marks stay
abbrev pub NextCase : Cases → Option Case → Cases → Type 0
NextCase s None t = s.list.now ≡ []
NextCase s (Some c) t = (c.image.now ++ c.answer.now ≡ take (length c.image.now + length c.answer.now) s.list.now)
    × (t.list.now ≡ drop (length c.image.now + length c.answer.now + 1) s.list.now)
    × IsFirstAnswer s (length c.image.now)
    × (t.marks.now ≡ s.marks.now)
