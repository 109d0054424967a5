-- "All work memory is zero after every operation."
use Rattle.std.specs.Prelude.{◌≡◌, List, ℕ, get_or}

-- a slice that is zero to its end
abbrev pub AllZero : List ℕ → Type 0
AllZero l = (i : ℕ) → get_or l i 0 ≡ 0
