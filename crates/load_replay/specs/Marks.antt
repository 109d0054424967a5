-- Which lines of the list belong to an image: one that ends in a line feed is followed by a line that begins with `=`, any other by one that begins with `~`.
use Rattle.std.specs.Prelude.{None, Some, Option, ℕ, ◌-◌, cond, ◌&&◌, ◌==◌, nat_lt}
use Rattle.load_replay.specs.declared.list.Mark.{Mark}
use Rattle.load_replay.specs.declared.list.Mark.TheVariants.{Equals, Tilde}

-- the marks by their numbers, 0 where there is none
abbrev pub number_of : Option Mark → ℕ
number_of None = 0
number_of (Some Equals) = 1
number_of (Some Tilde) = 2

-- the mark of a line by its first byte: 1 for `=` (61), 2 for `~` (126), 0 for a line of an image
abbrev pub mark_of : ℕ → ℕ
mark_of first = cond (first == 61) 1 (cond (first == 126) 2 0)

-- where an image that begins at `from` ends, the line of its answer beginning at `at`: before the line feed that stands there, where the mark is 2; else at `at`
abbrev pub end_of : ℕ → ℕ → ℕ → ℕ
end_of mark from at = cond (mark == 2 && nat_lt from at) (at - 1) at
