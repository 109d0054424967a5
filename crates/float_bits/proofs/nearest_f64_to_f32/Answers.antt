-- `float_bits::nearest_f64_to_f32` meets its contract: the bits of x, and back from those of the nearest. Assumes nothing.

use borrow.Author.Rules.{rules}
use mathlib.Core.Path.{ap, ◌∙◌, ◌≡◌}
use Prim.Native.Nat.{ℕ, ◌%◌, ◌^◌, ◌<◌}
use native.Mathlib.Omega.{arith}
use lib.Ieee.{binary32, binary64, of_bits}
use lib.Ieee.Bits.{of_bits-to_bits}
use Rattle.float_bits.specs.Nearest.{nearest_binary32}
use Rattle.float_bits.proofs.nearest_f64_to_f32.Goals as goal

kept : {n : ℕ} → n < 2 ^ 32 → n % 2 ^ 32 ≡ n
kept h = omega arith

pub returns : goal.returns
returns c =
    c.of_word.ensures
    ∙ ap (of_bits binary32) (kept c.nearest_word.ensures.upper_bound)
    ∙ c.nearest_word.ensures.nearest
    ∙ ap (λ (b : ℕ). nearest_binary32 (of_bits binary64 b)) c.to_word.ensures.word
    ∙ ap nearest_binary32 (of_bits-to_bits binary64 _ (search rules))
