-- Inner step: the rules of the stack check over what the search works with, an instruction as a `Node`. proofs/Same.antt shows that they are the
-- definition's (`Reach`, `Heights` of the crate `definition`), of which the contracts speak.
use Rattle.std.specs.Prelude.{◌≡◌, ◌⊎◌, true, false, ℕ, ◌+◌, ◌-◌, ◌^◌, ◌≤◌, ◌<◌, ℤ, pos, ◌+ℤ◌, length}
use Rattle.definition.specs.Image.{Chunk}
use Rattle.definition.specs.Table.{added}
use Rattle.definition.specs.Decode.{fault}
use Rattle.stack_check.specs.Node.{node_at}
use Rattle.stack_check.specs.declared.Node.{Node}

-- t comes after the instruction
abbrev pub Goes : Node → ℕ → Type 0
Goes n t = (n.ends ≡ false) × ((t ≡ n.first) ⊎ (t ≡ n.second))

-- the offsets that can be reached: 0, and what comes after one that can be reached and has no fault
pub data Reach (c : Chunk) : ℕ → Type 0 where
  start : Reach c 0
  after : {o t : ℕ} → Reach c o → o < length c.code → fault c o ≡ 0 → Goes (node_at c o) t → Reach c t

-- what t asks of a height and a depth with which control comes there: before the end its own, else height 0
pub record Comes (c : Chunk) (H D : ℕ → ℕ) (t h d : ℕ) : Type 0 where
  pub height : t < length c.code → H t ≡ h
  pub depth : t < length c.code → D t ≡ d
  pub empty : length c.code ≤ t → h ≡ 0

-- what an instruction asks of its height and depth
pub record Fit (n : Node) (h d : ℕ) : Type 0 where
  pub enough : n.need ≤ h
  pub exactly : n.exact ≡ true → h ≡ n.need
  pub scoped : n.drops ≤ d

-- the height and the depth after it: "the height goes by the table's change"
abbrev pub height_after : Node → ℕ → ℕ
height_after n h = added h n.change

abbrev pub depth_after : Node → ℕ → ℕ
depth_after n d = d - n.drops + n.opens

-- a height that is changed by z stays one, and is no more than the machine counts
pub record Changeable (h : ℕ) (z : ℤ) : Type 0 where
  pub whole : pos (added h z) ≡ pos h +ℤ z
  pub before : h < 2 ^ 63
  pub after : added h z < 2 ^ 63

-- an instruction at height h and depth d
pub record Obeys (c : Chunk) (H D : ℕ → ℕ) (n : Node) (h d : ℕ) : Type 0 where
  pub fit : Fit n h d
  pub goes : (t : ℕ) → Goes n t → Comes c H D t (height_after n h) (depth_after n d)

-- one height and one depth for every offset that can be reached, with which all obey
pub record Assigned (c : Chunk) (H D : ℕ → ℕ) : Type 0 where
  pub height : H 0 ≡ 0
  pub depth : D 0 ≡ 0
  pub obeys : (o : ℕ) → Reach c o → o < length c.code → fault c o ≡ 0 → Obeys c H D (node_at c o) (H o) (D o)

abbrev pub NoFault : Chunk → Type 0
NoFault c = (o : ℕ) → Reach c o → o < length c.code → fault c o ≡ 0

pub record Lowest (c : Chunk) (number at : ℕ) : Type 0 where
  pub inside : at < length c.code
  pub reached : Reach c at
  pub named : fault c at ≡ number
  pub faulty : number ≡ 0 → ⊥
  pub least : (o : ℕ) → Reach c o → o < at → fault c o ≡ 0
