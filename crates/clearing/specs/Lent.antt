-- What a contract sees of a slice that was lent.
use Rattle.std.specs.Prelude.{◌≡◌, List, ℕ, length}

-- all its elements, and which slice it is
pub record Lent (T : Type 0) : Type 0 where
  pub items : List T
  pub name : ℕ

-- it is the slice that it was, with as many elements, so that who lent it knows what it holds afterwards
pub record SameSlice {T : Type 0} (a b : Lent T) : Type 0 where
  pub slice : b.name ≡ a.name
  pub long : length b.items ≡ length a.items
