-- The work memory that `check` is lent: "All work memory is zero after every operation."
use Rattle.std.specs.Prelude.{Bool, ◌||◌, List, ℕ, length, ltb}
use Rattle.image.specs.Answer.{Slices, short}
use Rattle.clearing.specs.Zero.{AllZero}
use Rattle.load_answers.specs.Zero.{LoadZero}

-- the slices that `check` works in: those of `load`, and three for the stack check
pub record CheckWork : Type 0 where
  pub loading : Slices
  pub heights : List ℕ
  pub depths : List ℕ
  pub todo : List ℕ

abbrev pub check_work : Slices → List ℕ → List ℕ → List ℕ → CheckWork
check_work m h d t = record { loading = m; heights = h; depths = d; todo = t }

-- whether one of the three is below 4,096, by their lengths
abbrev pub is_short : ℕ → ℕ → ℕ → Bool
is_short h d t = ltb h 4096 || (ltb d 4096 || ltb t 4096)

-- "9 exactly if a work slice is below its length named in docs/": those of `load`, and 4,096 for each of the three, since "code a chunk 4,096 bytes"
unfoldable pub check_short : CheckWork → Bool
check_short w =
    ltb (length w.heights) 4096 || (ltb (length w.depths) 4096 || (ltb (length w.todo) 4096 || short w.loading))

-- each zero to its end
pub record CheckZero (w : CheckWork) : Type 0 where
  pub loading : LoadZero w.loading
  pub heights : AllZero w.heights
  pub depths : AllZero w.depths
  pub todo : AllZero w.todo
