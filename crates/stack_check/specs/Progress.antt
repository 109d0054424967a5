-- Inner step: what holds of the search's work slices between two of its turns. No public contract speaks of it.
use Rattle.std.specs.Prelude.{◌≡◌, Bool, true, false, List, [], ◌∷◌, ℕ, zero, suc, ◌+◌, ◌-◌, ◌≤◌, ◌<◌, length, get_or}
use Rattle.definition.specs.Image.{Chunk}
use Rattle.definition.specs.Decode.{fault}
use Rattle.stack_check.specs.Node.{node_at}
use Rattle.stack_check.specs.Flat.{Goes, Reach, Assigned, Fit, Comes, height_after, depth_after}
use Rattle.stack_check.specs.declared.Search.{Search}
use Rattle.stack_check.specs.declared.Node.{Node}

-- how many elements are 0
unfoldable pub zero_at : ℕ → ℕ
zero_at zero = 1
zero_at (suc n) = 0

unfoldable pub zeros : List ℕ → ℕ
unfolding zero_at
zeros [] = 0
zeros (x ∷ xs) = zero_at x + zeros xs

-- control came to t with height h and depth d, and that is noted; once `bad` is set only that it came
pub record Arrived (c : Chunk) (hs ds : List ℕ) (bad : Bool) (t h d : ℕ) : Type 0 where
  pub seen : t < length c.code → 0 < get_or hs t 0
  pub height : t < length c.code → bad ≡ false → get_or hs t 0 ≡ h + 1
  pub depth : t < length c.code → bad ≡ false → get_or ds t 0 ≡ d
  pub empty : length c.code ≤ t → bad ≡ false → h ≡ 0

-- an instruction that has no fault was handled at height h and depth d
pub record Handled (c : Chunk) (hs ds : List ℕ) (bad : Bool) (n : Node) (h d : ℕ) : Type 0 where
  pub fit : bad ≡ false → Fit n h d
  pub goes : (t : ℕ) → Goes n t → Arrived c hs ds bad t (height_after n h) (depth_after n d)

abbrev pub HandledAt : Chunk → List ℕ → List ℕ → Bool → ℕ → Type 0
HandledAt c hs ds bad o = Handled c hs ds bad (node_at c o) (get_or hs o 0 - 1) (get_or ds o 0)

-- an offset of the list of those seen
pub record Listed (c : Chunk) (hs : List ℕ) (o : ℕ) : Type 0 where
  pub inside : o < length c.code
  pub seen : 0 < get_or hs o 0
  pub reached : Reach c o

-- every assignment has the heights and depths noted, and there is none once `bad` is set
pub record Forced (c : Chunk) (hs ds : List ℕ) (bad : Bool) (H D : ℕ → ℕ) : Type 0 where
  pub good : bad ≡ false
  pub height : (o : ℕ) → o < length c.code → 0 < get_or hs o 0 → get_or hs o 0 ≡ H o + 1
  pub depth : (o : ℕ) → o < length c.code → 0 < get_or hs o 0 → get_or ds o 0 ≡ D o

pub record Progress (c : Chunk) (hs ds ts : List ℕ) (s : Search) : Type 0 where
  pub long_heights : length c.code ≤ length hs
  pub long_depths : length hs ≤ length ds
  pub long_todo : length hs ≤ length ts
  pub room : s.tail + zeros hs ≡ length hs
  pub order : s.head ≤ s.tail
  pub origin : 0 < length c.code
  pub top_height : get_or hs 0 0 ≡ 1
  pub top_depth : get_or ds 0 0 ≡ 0
  pub listed : (j : ℕ) → j < s.tail → Listed c hs (get_or ts j 0)
  pub marked : (o : ℕ) → o < length c.code → 0 < get_or hs o 0 → (j : ℕ) × (j < s.tail) × (get_or ts j 0 ≡ o)
  pub low_heights : (o : ℕ) → o < length c.code → get_or hs o 0 ≤ s.tail
  pub low_depths : (o : ℕ) → o < length c.code → 0 < get_or hs o 0 → get_or ds o 0 < s.tail
  pub forced : (H D : ℕ → ℕ) → Assigned c H D → Forced c hs ds s.bad H D
  pub handled : (j : ℕ) → j < s.head → fault c (get_or ts j 0) ≡ 0 → HandledAt c hs ds s.bad (get_or ts j 0)
  pub least : (j : ℕ) → j < s.head → (fault c (get_or ts j 0) ≡ 0 → ⊥) → s.low ≤ get_or ts j 0
  pub found : s.low < length c.code → Reach c s.low × (fault c s.low ≡ 0 → ⊥)

-- what a visit keeps
pub record SearchKept (hs ds ts hs' ds' ts' : List ℕ) (s s' : Search) : Type 0 where
  pub heights : (o : ℕ) → 0 < get_or hs o 0 → get_or hs' o 0 ≡ get_or hs o 0
  pub depths : (o : ℕ) → 0 < get_or hs o 0 → get_or ds' o 0 ≡ get_or ds o 0
  pub todo : (j : ℕ) → j < s.tail → get_or ts' j 0 ≡ get_or ts j 0
  pub long : length hs' ≡ length hs
  pub grows : s.tail ≤ s'.tail
  pub worse : s'.bad ≡ false → s.bad ≡ false
  pub head : s'.head ≡ s.head
  pub low : s'.low ≡ s.low

-- control may come to t with height h and depth d: any assignment says so
pub record Coming (c : Chunk) (tail t h d : ℕ) : Type 0 where
  pub reached : Reach c t
  pub height : h ≤ tail
  pub depth : d ≤ tail
  pub right : (H D : ℕ → ℕ) → Assigned c H D → Comes c H D t h d

-- what a visit of t leaves
pub record Visited (c : Chunk) (hs ds ts hs' ds' ts' : List ℕ) (s s' : Search) (t h d : ℕ) : Type 0 where
  pub progress : Progress c hs' ds' ts' s'
  pub kept : SearchKept hs ds ts hs' ds' ts' s s'
  pub arrived : Arrived c hs' ds' s'.bad t h d

-- what the visits of all that come after an instruction leave
pub record Spread (c : Chunk) (hs ds ts hs' ds' ts' : List ℕ) (s s' : Search) (n : Node) (h d : ℕ) : Type 0 where
  pub progress : Progress c hs' ds' ts' s'
  pub kept : SearchKept hs ds ts hs' ds' ts' s s'
  pub arrived : (t : ℕ) → Goes n t → Arrived c hs' ds' s'.bad t h d

-- what handling the instruction at o, which has no fault, leaves
pub record Handling (c : Chunk) (hs ds ts hs' ds' ts' : List ℕ) (s s' : Search) (o : ℕ) : Type 0 where
  pub progress : Progress c hs' ds' ts' s'
  pub kept : SearchKept hs ds ts hs' ds' ts' s s'
  pub handled : HandledAt c hs' ds' s'.bad o

-- the answer of a test: whether the instruction is fit
pub record Tested (n : Node) (h d : ℕ) (r : Bool) : Type 0 where
  pub yes : r ≡ true → Fit n h d
  pub not : r ≡ false → Fit n h d → ⊥
