-- Two numbers, by their order. Assumes nothing.
use mathlib.Core.Path.{◌≡◌}
use mathlib.Core.Logic.{◌⊎◌, inl, inr, ⊎_elim}
use Prim.Native.Nat.{ℕ, ◌+◌, ◌≤◌, ◌<◌}
use native.Mathlib.Decide.{ℕ_discrete, dec_lt}
use native.Mathlib.Omega.{arith}

from_dec : {a b : ℕ} → Dec (a ≡ b) → (a ≡ b) ⊎ (a ≡ b → ⊥)
from_dec (yes e) = inl e
from_dec (no n) = inr n

pub same_or : (a b : ℕ) → (a ≡ b) ⊎ (a ≡ b → ⊥)
same_or a b = from_dec (ℕ_discrete a b)

from_lt : {a b : ℕ} → Dec (a < b) → (a < b) ⊎ (b ≤ a)
from_lt (yes l) = inl l
from_lt (no n) = inr (omega arith)

pub below_or : (a b : ℕ) → (a < b) ⊎ (b ≤ a)
below_or a b = from_lt (dec_lt a b)

pub below_next : (j i : ℕ) → j < i + 1 → (j < i) ⊎ (j ≡ i)
below_next j i h = ⊎_elim (λ e. inr e) (λ n. inl (omega arith)) (same_or j i)
