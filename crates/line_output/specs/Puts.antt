-- A piece of a line, put into a buffer.
use Rattle.std.specs.Prelude.{◌≡◌, List, ◌++◌, ℕ, ◌+◌, ◌≤◌, length, take, drop}

-- w was put into `out` at `at`: `out'` is what the buffer holds now, and w ends at `to` there. All that was not written is as it was.
pub record Puts (out : List ℕ) (at : ℕ) (w : List ℕ) (out' : List ℕ) (to : ℕ) : Type 0 where
  pub to_is : to ≡ at + length w
  pub within : to ≤ length out
  pub buffer : out' ≡ take at out ++ w ++ drop to out
