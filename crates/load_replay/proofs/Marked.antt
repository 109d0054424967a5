-- The marks of the list are the bytes that the definition has a number for.
use mathlib.Core.Path.{◌≡◌, sym}
use mathlib.Core.List.{[], ◌∷◌}
use Prim.Native.Nat.{ℕ}
use native.Mathlib.Decide.{ℕ_discrete}
use borrow.Author.Tests.{eq-eqb, ne_eqb}
use Rattle.std.specs.Prelude.{nat_lt}
use Rattle.case_list.specs.Cases.{is_mark}
use Rattle.load_replay.specs.Marks.{mark_of}

pub marked : (x : ℕ) → is_mark (61 ∷ 126 ∷ []) x ≡ nat_lt 0 (mark_of x)
marked x = go (ℕ_discrete x 61) (ℕ_discrete x 126)
  where
    go : Dec (x ≡ 61) → Dec (x ≡ 126) → is_mark (61 ∷ 126 ∷ []) x ≡ nat_lt 0 (mark_of x)
    go (yes e) d = rw (eq-eqb x 61 e, eq-eqb 61 x (sym e))
    go (no n) (yes e) = rw (ne_eqb x 61 n, ne_eqb 61 x (λ q. n (sym q)), eq-eqb x 126 e, eq-eqb 126 x (sym e))
    go (no n) (no m) = rw (ne_eqb x 61 n, ne_eqb 61 x (λ q. n (sym q)), ne_eqb x 126 m, ne_eqb 126 x (λ q. m (sym q)))
