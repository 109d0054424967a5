-- `float_bits::nearest_word` meets its contract: what is nearest to the magnitude, with the sign. Assumes nothing.

use borrow.Author.Rules.{rules}
use Prim.Native.Nat.{ℕ, ◌+◌, ◌%◌, ◌^◌, ◌<◌, ◌≤◌}
use mathlib.Core.Bool.{true, false}
use native.Mathlib.Omega.{arith}
use lib.Ieee.{binary32, binary64, of_bits}
use Rattle.float_bits.specs.Nearest.{nearest_binary32}
use mathlib.Core.Path.{◌≡◌, ap, ◌∙◌, sym}
use native.Mathlib.Nat.{zero-add}
use Rattle.float_bits.proofs.nearest_word.Goals as goal

-- the sign's bit, taken off and put on again
high : (b : ℕ) → 2 ^ 63 ≤ b → b < 2 ^ 64 → 2 ^ 63 + b % 2 ^ 63 ≡ b
high b h l = omega arith

low : (b : ℕ) → b < 2 ^ 63 → 0 + b % 2 ^ 63 ≡ b
low b h = omega arith

pub returns-then-b-ge9223372036854775808 : goal.returns-then-b-ge9223372036854775808
returns-then-b-ge9223372036854775808 c = record {
  nearest =
      c.nearest_magnitude-w.ensures.nearest true
      ∙ ap (λ (b : ℕ). nearest_binary32 (of_bits binary64 b)) (high c.args.b c.if-b-ge9223372036854775808.true (search rules));
  upper_bound = omega (arith, c.nearest_magnitude-w.ensures.upper_bound);
}

pub returns-else-b-ge9223372036854775808 : goal.returns-else-b-ge9223372036854775808
returns-else-b-ge9223372036854775808 c = record {
  nearest =
      ap (of_bits binary32) (sym (zero-add _))
      ∙ c.nearest_magnitude-w.ensures.nearest false
      ∙ ap (λ (b : ℕ). nearest_binary32 (of_bits binary64 b)) (low c.args.b c.if-b-ge9223372036854775808.false);
  upper_bound = omega (arith, c.nearest_magnitude-w.ensures.upper_bound);
}
