-- Work slices that are zero up to their named lengths, and as they were behind them.
use mathlib.Core.Path.{◌≡◌, sym, ap, ◌∙◌}
use mathlib.Core.List.{List, ◌++◌}
use Prim.Native.Nat.{ℕ, ◌≤◌}
use native.Mathlib.Omega.{arith}
use lib.ListN.{length, take, drop, replicate, length-replicate, get_or-replicate}
use lib.Seq.{drop_at, length-take-le, ext_get_or}
use Rattle.clearing.specs.Zero.{AllZero}
use Rattle.image.specs.Answer.{Slices, slices, BehindMost, zero_to, blanked}

-- the first n elements were cleared
pub cleared : (n : ℕ) (l out : List ℕ) → length out ≡ length (take n l) → n ≤ length l → AllZero out → out ++ drop n l ≡ zero_to n l
unfolding zero_to
cleared n l out e room z =
    let as_many : length out ≡ n = e ∙ length-take-le n l room in
    ap (λ (x : List ℕ). x ++ drop n l)
    (ext_get_or 0 out (replicate n 0) (as_many ∙ sym (length-replicate n 0)) (λ i h. z i ∙ sym (get_or-replicate n i 0 0 (omega arith))))

zero_behind : (n : ℕ) (l : List ℕ) → drop n (zero_to n l) ≡ drop n l
unfolding zero_to
zero_behind n l = drop_at (replicate n 0) (drop n l) n (length-replicate n 0)

pub blanked_behind : (m : Slices) → BehindMost m (blanked m)
blanked_behind m =
    record {
      same_bytes = zero_behind 32768 m.bytes;
      same_ends = zero_behind 256 m.ends;
      same_kinds = zero_behind 13107 m.kinds;
      same_payloads = zero_behind 13107 m.payloads;
      same_table = zero_behind 260 m.table;
    }

zero_again : (n : ℕ) (l l' : List ℕ) → drop n l' ≡ drop n l → zero_to n l' ≡ zero_to n l
unfolding zero_to
zero_again n l l' e = ap (λ (x : List ℕ). replicate n 0 ++ x) e

pub same_slices :
    {b b' e e' k k' p p' t t' : List ℕ} → b ≡ b' → e ≡ e' → k ≡ k' → p ≡ p' → t ≡ t' → slices b e k p t ≡ slices b' e' k' p' t'
same_slices x y z u v = rw (x, y, z, u, v)

pub blanked_again : (m m' : Slices) → BehindMost m m' → blanked m' ≡ blanked m
blanked_again m m' b =
    same_slices (zero_again 32768 m.bytes m'.bytes b.same_bytes) (zero_again 256 m.ends m'.ends b.same_ends)
    (zero_again 13107 m.kinds m'.kinds b.same_kinds) (zero_again 13107 m.payloads m'.payloads b.same_payloads)
    (zero_again 260 m.table m'.table b.same_table)
