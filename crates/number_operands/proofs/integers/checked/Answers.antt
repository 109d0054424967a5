-- `number_operands::integers::checked` meets its contract: a number in range wraps to itself. Assumes nothing.

use Rattle.std.proofs.Common.{◌≡◌, ℕ, Bool, true, false, ℤ, pos, sym, ap, ◌∙◌, Ok, Err}
use Rattle.numbers.specs.declared.Number.{Number}
use Rattle.numbers.specs.declared.NumberFault.TheVariants.{Overflow}
use Rattle.numbers.specs.declared.IntKind.{IntKind}
use Rattle.numbers.specs.Kinds.{in_range, as_kind, low_bits, wrapping}
use Rattle.number_operands.specs.Operands.{value_of}
use Rattle.numbers.specs.Answers.{pick}
use Rattle.numbers.specs.Arithmetic.{checked}
use Rattle.numbers.proofs.Wrap.{wrapping_word, wrapping_in}
use Rattle.number_operands.proofs.integers.checked.Goals as goal

exact : (k : IntKind) (z : ℤ) {w : ℕ} {r : Number} → w ≡ low_bits 64 z → in_range k z ≡ true → r ≡ as_kind k (wrapping k (pos w)) → Ok r ≡ checked k z
unfolding checked
exact k z e h q = ap Ok (q ∙ ap (as_kind k) (wrapping_word k z e ∙ wrapping_in k z h)) ∙ sym (ap (λ (b : Bool). pick b (Ok (as_kind k z)) (Err Overflow)) h)

over : (k : IntKind) (z : ℤ) → in_range k z ≡ false → Err Overflow ≡ checked k z
unfolding checked
over k z h = sym (ap (λ (b : Bool). pick b (Ok (as_kind k z)) (Err Overflow)) h)

pub returns-then-in_range : goal.returns-then-in_range
returns-then-in_range c =
    let if1 = c.if-in_range in
    let in_range = c.in_range in
    let args = c.args in
    exact args.kind (value_of args.x) c.word_of.ensures (sym in_range.ensures ∙ if1.true) c.number_of_word.ensures

pub returns-else-in_range : goal.returns-else-in_range
returns-else-in_range c =
    let args = c.args in
    over args.kind (value_of args.x) (sym c.in_range.ensures ∙ c.if-in_range.false)
