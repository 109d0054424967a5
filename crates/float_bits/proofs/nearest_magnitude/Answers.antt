-- `float_bits::nearest_magnitude` meets its contract: each way is a case of `Nearest`. Assumes nothing.

use borrow.Author.Rules.{rules}
use Prim.Native.Nat.{ℕ, ◌+◌, ◌-◌, ◌%◌, ◌/◌, ◌^◌, ◌<◌, ◌≤◌}
use mathlib.Core.Path.{◌≡◌, sym, subst}
use lib.Ieee.Nearest.{closest}
use native.Mathlib.Omega.{arith}
use native.Mathlib.Nat.{lt_of_lt_of_le}
use lib.Pow.{pow_mono}
use Rattle.float_bits.proofs.Nearest.{to_nan, to_infinity, to_normal, to_subnormal, to_zero}
use Rattle.float_bits.proofs.Round.{closest_le}
use Rattle.float_bits.proofs.nearest_magnitude.Goals as goal

-- what was kept has at most 25 digits
kept : (m q : ℕ) → q ≡ closest (2 ^ 52 + m % 2 ^ 52) (2 ^ 29) → q ≤ 2 ^ 24
kept m q e =
    let h : 2 ^ 52 + m % 2 ^ 52 < 2 ^ 53 = omega arith in
    subst (λ (x : ℕ). x ≤ 2 ^ 24) (sym e) (closest_le (2 ^ 52 + m % 2 ^ 52) 29 24 h)

kept_low : (m r q : ℕ) → 30 ≤ r → q ≡ closest (2 ^ 52 + m % 2 ^ 52) (2 ^ r) → q ≤ 2 ^ 23
kept_low m r q l e =
    let h : 2 ^ 52 + m % 2 ^ 52 < 2 ^ 53 = omega arith in
    let k : 53 ≤ 23 + r = omega arith in
    subst (λ (x : ℕ). x ≤ 2 ^ 23) (sym e) (closest_le (2 ^ 52 + m % 2 ^ 52) r 23 (lt_of_lt_of_le h (pow_mono k)))

pub returns-then-m-gt9218868437227405312 : goal.returns-then-m-gt9218868437227405312
returns-then-m-gt9218868437227405312 c = record {
  nearest = to_nan _ c.requires c.if-m-gt9218868437227405312.true;
  upper_bound = search rules;
}

pub returns-then-e-ge1151 : goal.returns-then-e-ge1151
returns-then-e-ge1151 c = record {
  nearest = to_infinity _ c.requires c.if-m-gt9218868437227405312.false c.if-e-ge1151.true;
  upper_bound = search rules;
}

pub overflow_add-result : goal.overflow_add-result
overflow_add-result c =
    let args = c.args in
    let m = args.m in
    omega (arith, kept m c.shift_to_nearest.result c.shift_to_nearest.ensures)

pub returns-then-e-ge897 : goal.returns-then-e-ge897
returns-then-e-ge897 c =
    let m = c.args.m in record {
      nearest = to_normal m c.requires c.if-e-ge897.true c.if-e-ge1151.false c.shift_to_nearest.ensures;
      upper_bound = omega (arith, kept m c.shift_to_nearest.result c.shift_to_nearest.ensures);
    }

pub returns-then-e-ge872 : goal.returns-then-e-ge872
returns-then-e-ge872 c =
    let m = c.args.m in
    let if3 = c.if-e-ge897 in
    let l : 30 ≤ 926 - m / 2 ^ 52 = omega arith in record {
      nearest = to_subnormal m c.requires c.if-e-ge872.true if3.false c.shift_to_nearest-then-e-ge872.ensures;
      upper_bound = omega (arith, kept_low m (926 - m / 2 ^ 52) c.shift_to_nearest-then-e-ge872.result l c.shift_to_nearest-then-e-ge872.ensures);
    }

pub returns : goal.returns
returns c =
    let pre = c.requires in record {
      nearest = to_zero _ pre c.if-e-ge872.false;
      upper_bound = search rules;
    }
