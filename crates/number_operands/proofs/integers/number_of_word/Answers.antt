-- Each arm is the definition at its kind: std's signed number of a word is its two's complement, by computing.

use borrow.Author.Rules.{rules}
use Rattle.std.proofs.Common.{◌≡◌, ℕ, pos, sym, refl, ap, ◌∙◌, to_z-of_z, w8, w16, w32, w64, rules}
use Rattle.numbers.specs.declared.Number.{Number}
use Rattle.numbers.specs.declared.Number.TheVariants.{Int, UInt, SInt, SByte, BSByte}
use Rattle.numbers.specs.declared.IntKind.{IntKind}
use Rattle.numbers.specs.Kinds.{as_kind, wrapping, twos_complement}
use Rattle.numbers.proofs.Wrap.{word_pos}
use Rattle.number_operands.proofs.integers.number_of_word.Goals as goal

-- an arm speaks of its own kind
at : (n : ℕ) {k j : IntKind} {r : Number} → k ≡ j → r ≡ as_kind j (wrapping j (pos n)) → r ≡ as_kind k (wrapping k (pos n))
at n e h = h ∙ sym (ap (λ (i : IntKind). as_kind i (wrapping i (pos n))) e)

pub returns-in-I64 : goal.returns-in-I64
unfolding wrapping
returns-in-I64 c =
    let args = c.args in
    at args.n c.in-I64.is (ap Int (to_z-of_z {w = w64} {z = c.cast_signed.result} (search
    rules) ∙ c.cast_signed.ensures ∙ ap (twos_complement 63) (word_pos args.n (search rules))))

pub returns-in-U64 : goal.returns-in-U64
unfolding wrapping
returns-in-U64 c =
    let args = c.args in
    at args.n c.in-U64.is (ap UInt (word_pos args.n (search rules)))

pub returns-in-I32 : goal.returns-in-I32
unfolding wrapping
returns-in-I32 c =
    let args = c.args in
    at args.n c.in-I32.is (ap SInt (to_z-of_z {w = w32} {z = c.cast_signed-in-I32.result}
    (search rules) ∙ c.cast_signed-in-I32.ensures))

pub returns-in-U32 : goal.returns-in-U32
unfolding wrapping
returns-in-U32 c =
    let args = c.args in
    at args.n c.in-U32.is refl

pub returns-in-U8 : goal.returns-in-U8
unfolding wrapping
returns-in-U8 c =
    let args = c.args in
    at args.n c.in-U8.is refl

pub returns-in-I8 : goal.returns-in-I8
unfolding wrapping
returns-in-I8 c =
    let args = c.args in
    at args.n c.in-I8.is (ap SByte (to_z-of_z {w = w8} {z = c.cast_signed-in-I8.result}
    (search rules) ∙ c.cast_signed-in-I8.ensures))

pub returns-in-U16 : goal.returns-in-U16
unfolding wrapping
returns-in-U16 c =
    let args = c.args in
    at args.n c.in-U16.is refl

pub returns-in-I16 : goal.returns-in-I16
unfolding wrapping
returns-in-I16 c =
    let args = c.args in
    at args.n c.in-I16.is (ap BSByte (to_z-of_z {w = w16} {z = c.cast_signed-in-I16.result}
    (search rules) ∙ c.cast_signed-in-I16.ensures))
