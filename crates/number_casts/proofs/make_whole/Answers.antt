-- By the float's whole part and its sign.
use Rattle.std.proofs.Common.{Some, rules, ap, ◌%◌, ◌^◌, ◌∙◌, true, false}
use lib.Ieee.{binary64, of_bits, to_unsigned}
use borrow.Author.Tests.{le-leb, lt-leb}
use Rattle.number_casts.proofs.CastLaws.{view, small_is, large_word, large_outside, beyond_word, beyond_outside}
use Rattle.number_casts.proofs.make_whole.Goals as goal

pub returns-in-Some-Below64 : goal.returns-in-Some-Below64
returns-in-Some-Below64 c =
    let b = c.to_word-b in
    let args = c.args in
    small_is args.x b.result (search rules) (search rules) b.ensures.word c.in-Some-Below64.magnitude
    (view (to_unsigned 128 (of_bits binary64 (b.result % 2 ^ 63))) c.whole_part.ensures (c.in-Some-Below64.is ∙ ap Some c.in-Some-Below64.field-0-is))

pub returns-in-Some-Below127 : goal.returns-in-Some-Below127
returns-in-Some-Below127 c =
    let b = c.to_word-b in
    let args = c.args in
    let v = (view (to_unsigned 128 (of_bits binary64 (b.result % 2 ^ 63))) c.whole_part.ensures (c.in-Some-Below127.is ∙ ap Some c.in-Some-Below127.field-0-is)) in
    let m = c.in-Some-Below127.magnitude in (
      c.word_of.ensures ∙ large_word args.x b.result (search rules) (search rules) b.ensures.word m v,
      λ k. large_outside args.x b.result (search rules) (search rules) b.ensures.word k m v,
    )

pub returns-in-None : goal.returns-in-None
returns-in-None c =
    let b = c.to_word-b in
    let args = c.args in
    let v = (view (to_unsigned 128 (of_bits binary64 (b.result % 2 ^ 63))) c.whole_part.ensures c.in-None.is) in
    let s = le-leb (2 ^ 63) b.result c.if-negative.true in (
      beyond_word args.x b.result (search rules) (search rules) b.ensures.word v true s,
      λ k. beyond_outside args.x b.result (search rules) (search rules) b.ensures.word k v true s,
    )

pub returns-in-None-2 : goal.returns-in-None-2
returns-in-None-2 c =
    let b = c.to_word-b in
    let args = c.args in
    let v = (view (to_unsigned 128 (of_bits binary64 (b.result % 2 ^ 63))) c.whole_part.ensures c.in-None.is) in
    let s = lt-leb (2 ^ 63) b.result c.if-negative.false in (
      beyond_word args.x b.result (search rules) (search rules) b.ensures.word v false s,
      λ k. beyond_outside args.x b.result (search rules) (search rules) b.ensures.word k v false s,
    )
