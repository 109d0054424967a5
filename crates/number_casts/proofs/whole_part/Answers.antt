-- `number_casts::whole_part` meets its contract, by the exponent. Assumes nothing.

use Rattle.std.proofs.Common.{◌%◌, ◌^◌, refl, mod-lt, arith, pow_pos}
use Rattle.number_casts.proofs.Whole.{whole_nan, whole_tiny, whole_shr, whole_shl, whole_low, no_low, whole_past}
use Rattle.number_casts.proofs.whole_part.Goals as goal

pub returns-then-m-gt9218868437227405312 : goal.returns-then-m-gt9218868437227405312
returns-then-m-gt9218868437227405312 c = whole_nan (c.args.b % 2 ^ 63) (mod-lt c.args.b (pow_pos 63)) c.if-m-gt9218868437227405312.true

pub returns-then-e-lt1023 : goal.returns-then-e-lt1023
returns-then-e-lt1023 c =
    let args = c.args in
    whole_tiny (args.b % 2 ^ 63) (mod-lt args.b (pow_pos 63)) c.if-e-lt1023.true

pub returns-then-e-le1075 : goal.returns-then-e-le1075
returns-then-e-le1075 c =
    let args = c.args in
    whole_shr (args.b % 2 ^ 63) (mod-lt args.b (pow_pos 63)) c.if-e-lt1023.false c.if-e-le1075.true

pub returns-then-k-lt12 : goal.returns-then-k-lt12
returns-then-k-lt12 c =
    let args = c.args in
    whole_shl (args.b % 2 ^ 63) (mod-lt args.b (pow_pos 63)) c.if-e-le1075.false c.if-k-lt12.true

pub returns-then-k-lt64 : goal.returns-then-k-lt64
returns-then-k-lt64 c =
    let if3 = c.if-e-le1075 in
    let args = c.args in
    whole_low (args.b % 2 ^ 63) (mod-lt args.b (pow_pos 63)) if3.false c.if-k-lt12.false (omega arith) _ refl

pub returns-then-k-lt75 : goal.returns-then-k-lt75
returns-then-k-lt75 c =
    let if4 = c.if-k-lt12 in
    let if3 = c.if-e-le1075 in
    let args = c.args in
    whole_low (args.b % 2 ^ 63) (mod-lt args.b (pow_pos 63)) if3.false if4.false c.if-k-lt75.true 0 (no_low (args.b % 2 ^ 63) (mod-lt
    args.b (pow_pos 63)) c.if-k-lt64.false)

pub returns : goal.returns
returns c =
    let if3 = c.if-e-le1075 in
    let if1 = c.if-m-gt9218868437227405312 in
    let args = c.args in
    whole_past (args.b % 2 ^ 63) (mod-lt args.b (pow_pos 63)) if1.false if3.false c.if-k-lt75.false
