-- What an operator of a float type computes.
use Rattle.std.specs.Prelude.{◌≡◌, Float}

-- it takes all values, and gives what f is of the floats that they are
abbrev pub Computes : {X : Type 0} → (X → Float) → (Float → Float → Float) → (X → X → Type 0) → (X → X → X → Type 0) → Type 0
Computes {X} float f can gives = (x y : X) → can x y × ((r : X) → gives x y r → float r ≡ f (float x) (float y))
