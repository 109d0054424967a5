-- Target Int first, then the range.
use Rattle.std.proofs.Common.{rules, ◌≡◌, refl, sym, ap, ◌∙◌, Ok}
use Rattle.numbers.specs.Kinds.{int_kind_code}
use Rattle.number_casts.proofs.CastLaws.{cast_int, cast_fits, cast_invalid}
use Rattle.number_casts.proofs.cast_word.Goals as goal

pub returns-then-eq : goal.returns-then-eq
returns-then-eq c =
    let args = c.args in
    let h : int_kind_code args.kind ≡ 1 = search rules in
    λ z e f. ap Ok c.number_of_word.ensures ∙ cast_int args.kind z args.w e refl h

pub returns-then-fits : goal.returns-then-fits
returns-then-fits c =
    let args = c.args in
    let h : int_kind_code args.kind ≡ 1 → ⊥ = search rules in
    λ z e f. ap Ok c.number_of_word-then-fits.ensures ∙ cast_fits args.kind z args.w e refl h (sym f ∙ c.if-fits.true)

pub returns-else-fits : goal.returns-else-fits
returns-else-fits c =
    let args = c.args in
    let h : int_kind_code args.kind ≡ 1 → ⊥ = search rules in
    λ z e f. cast_invalid args.kind z args.w e refl h (sym f ∙ c.if-fits.false)
