-- The places of both numbers up, and zero's down.
use mathlib.Core.Path.{sym, ap, ◌∙◌}
use Rattle.numbers.specs.Arithmetic.{checked}
use Rattle.number_words.proofs.Places.{sum_is}
use Rattle.number_words.proofs.add_words.Goals as goal

pub returns : goal.returns
returns c =
    let args = c.args in
    let pre = c.requires in
    let x = c.turned in
    let y = c.turned-2 in
    λ k i. c.word_at.ensures k i ∙ sym (ap (checked k) (sum_is k args.n i args.p args.q x.result y.result pre.1 pre.2 x.ensures.0 y.ensures.0))
