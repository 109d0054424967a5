-- A case is what its list begins with.
use Rattle.std.proofs.Common.{rules, length, ◌-◌, ◌≡◌, ◌+◌, ◌≤◌, min, ℕ, List, ◌++◌}
use mathlib.Core.Path.{sym, ap, subst, ◌∙◌}
use native.Mathlib.Omega.{arith}
use Rattle.std.proofs.Math.ListN.{take, drop, drop_of_length-le}
use Rattle.std.proofs.Math.Seq.{take-add}
use Rattle.std.proofs.lemmas.List.{length-take-le, length-drop, take_rest}
use Rattle.case_list.specs.Cases.{IsFirstAnswer}
use Rattle.case_list.specs.declared.Cases.{Cases}

-- the pieces that end at `a` and at `e`, and what follows from `n` on
pub cut_twice :
    (l : List ℕ) (a e n : ℕ) → a ≤ e → e ≤ length l → n ≡ min (e + 1) (length l)
    → (take a l ++ take (e - a) (drop a l) ≡ take (length (take a l) + length (take (e - a) (drop a l))) l)
    × (take (length l - n) (drop n l) ≡ drop (length (take a l) + length (take (e - a) (drop a l)) + 1) l)
cut_twice l a e n h k m =
    let first : length (take a l) ≡ a = length-take-le a l (omega arith) in
    let second : length (take (e - a) (drop a l)) ≡ e - a = length-take-le (e - a) (drop a l) (omega (arith, length-drop a l)) in
    let both : length (take a l) + length (take (e - a) (drop a l)) ≡ a + (e - a) = omega (arith, first, second) in
    let end : length (take a l) + length (take (e - a) (drop a l)) + 1 ≡ e + 1 = omega (arith, first, second) in (
      sym (ap (λ (k : ℕ). take k l) both ∙ take-add a (e - a) l),
      take_rest l n ∙ search (rules, end, m, drop_of_length-le),
    )

-- what stands before the first line of an answer is as long as its place says
pub first_behind : (s : Cases) (l : List ℕ) (a : ℕ) → a ≤ length l → IsFirstAnswer s a → IsFirstAnswer s (length (take a l))
first_behind s l a h f = subst (IsFirstAnswer s) (sym (length-take-le a l h)) f
