-- Trees of arrays of two whose leaves are all the same number, or all but the last one.
use Rattle.std.specs.Prelude.{◌≡◌, Option, Some, None, Result, Ok, Err, Bool, ◌↔◌, ◌⊎◌, true, List, [], ◌∷◌, ℕ, zero, suc, ◌+◌, ◌*◌, ◌≤◌, ◌<◌, leb, length}
use Rattle.numbers.specs.declared.Number.{Number}
use Rattle.definition.specs.Image.{Image}
use Rattle.definition.specs.Value.{Value, node, none, more, num, arr}
use Rattle.definition.specs.Trees.{trees}
use Rattle.definition.specs.Equality.{Equal}
use Rattle.definition.specs.Coding.{coded}
use Rattle.values.specs.declared.VmValue.{VmValue}
use Rattle.values.specs.declared.BuildFault.{BuildFault}
use Rattle.values.specs.Words.{Fit}
use Rattle.values.specs.Flat.{deepest}
use Rattle.values.specs.Cells.{cells_of, tree_of, Placed, WellFormed}
use Rattle.values.specs.Building.{Builds}
use Rattle.value_coding.specs.Coding.{coded_answer, coded_out}

-- all leaves the same: a number, under so many arrays of two
unfoldable pub nested_tree : Number → ℕ → Value
nested_tree n zero = node (num n) none
nested_tree n (suc d) = node arr (more (nested_tree n d) (more (nested_tree n d) none))

-- the same but for the last of the leaves
unfoldable pub last_tree : Number → Number → ℕ → Value
last_tree n m zero = node (num m) none
last_tree n m (suc d) = node arr (more (nested_tree n d) (more (last_tree n m d) none))

-- no texts and no chunks
abbrev pub no_image : Image
no_image = record { texts = []; chunks = [] }

pub record NestedAsks (ws : List ℕ) (n : ℕ) : Type 0 where
  pub words : 8192 ≤ length ws
  pub few : n ≤ 4096
  pub formed : WellFormed (cells_of n ws)

-- what a value that was placed before keeps
pub record Stays (ws ws' : List ℕ) (n n' : ℕ) (u : VmValue) : Type 0 where
  pub placed : Placed (cells_of n' ws') n' u
  pub tree : tree_of (cells_of n' ws') u ≡ tree_of (cells_of n ws) u

-- [x, y] was built, then [x, x]
pub record Grows (x y : VmValue) (n : ℕ) (ws ws' : List ℕ) (v w : VmValue) : Type 0 where
  pub between : List ℕ
  pub between_length : length between ≡ length ws
  pub path : Builds arr (x ∷ y ∷ []) n ws between (Ok v)
  pub shared : Builds arr (x ∷ x ∷ []) (n + 2) between ws' (Ok w)

abbrev pub GrownGives : VmValue → VmValue → ℕ → List ℕ → List ℕ → Result (VmValue × VmValue) BuildFault → Type 0
GrownGives x y n ws ws' (Ok p) = Grows x y n ws ws' p.0 p.1
GrownGives x y n ws ws' (Err e) = (4096 < n + 4) ⊎ (64 ≤ deepest (x ∷ y ∷ []))

pub record NestedAt (leaf last : Number) (depth n : ℕ) (ws ws' : List ℕ) (v : VmValue) (n' : ℕ) : Type 0 where
  pub asks : NestedAsks ws' n'
  pub placed : Placed (cells_of n' ws') n' v
  pub tree : tree_of (cells_of n' ws') v ≡ last_tree leaf last depth
  pub fit : Fit v
  pub older : (u : VmValue) → Placed (cells_of n ws) n u → Stays ws ws' n n' u
  pub count : n' ≡ n + 4 * depth

-- not built only where the cells or the nesting would pass document 01's mosts
abbrev pub NestedGives : Number → Number → ℕ → ℕ → List ℕ → List ℕ → Result (VmValue × ℕ) BuildFault → Type 0
NestedGives leaf last depth n ws ws' (Ok p) = NestedAt leaf last depth n ws ws' p.0 p.1
NestedGives leaf last depth n ws ws' (Err e) = (4096 < n + 4 * depth) ⊎ (64 < depth)

-- the answer is whether the trees are equal; there is none only where a slice is short (of so many words, with a memo of so many) or the nesting is over 64
abbrev pub ComparedGives : Number → Number → Number → Number → ℕ → ℕ → ℕ → Option Bool → Type 0
ComparedGives a a' b b' depth words memo (Some r) = (r ≡ true) ↔ Equal no_image (last_tree a a' depth) (last_tree b b' depth)
ComparedGives a a' b b' depth words memo None = (words < 8192) ⊎ ((memo < 4096) ⊎ (64 < depth))

-- the bytes of the tree where they fit, and nothing else; or nothing at all, and this only where the slice of words is short or the nesting is over 64
pub data CodedGives (leaf last : Number) (depth words : ℕ) (l l' : List ℕ) (r : Option ℕ) : Type 0 where
  done : (n : ℕ) → r ≡ coded_answer (leb (length (coded trees n (last_tree leaf last depth))) (length l)) (coded trees n (last_tree leaf last depth))
      → l' ≡ coded_out (leb (length (coded trees n (last_tree leaf last depth))) (length l)) (coded trees n (last_tree leaf last depth)) l → CodedGives leaf last depth words l l' r
  not_built : (words < 8192) ⊎ (64 < depth) → r ≡ None → l' ≡ l → CodedGives leaf last depth words l l' r
