-- A word put into a buffer, as far as it has room.
use Rattle.std.specs.Prelude.{List, ℕ, ◌-◌, min, length}

-- how many bytes of w fit into `out` from `at` on
abbrev pub fitting : List ℕ → ℕ → List ℕ → ℕ
fitting out at w = min (length w) (length out - at)
