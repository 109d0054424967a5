-- `narrow_kind` meets its contract: each code is one of the list's, or none of them.

use borrow.Author.Rules.{rules}
use Rattle.std.proofs.Common.{Some}
use mathlib.Core.Path.{sym, ap, ◌∙◌}
use Rattle.number_words.specs.Words.{narrow_kind}
use Rattle.number_words.proofs.Places.{no_kind}
use Rattle.number_words.proofs.narrow_kind.Goals as goal

pub returns-in-3 : goal.returns-in-3
unfolding narrow_kind
returns-in-3 c = ap Some c.with_sign.ensures ∙ sym (ap narrow_kind c.in-3.is)

pub returns-in-4 : goal.returns-in-4
unfolding narrow_kind
returns-in-4 c = ap Some c.without_sign.ensures ∙ sym (ap narrow_kind c.in-4.is)

pub returns-in-10 : goal.returns-in-10
unfolding narrow_kind
returns-in-10 c = ap Some c.without_sign-in-10.ensures ∙ sym (ap narrow_kind c.in-10.is)

pub returns-in-11 : goal.returns-in-11
unfolding narrow_kind
returns-in-11 c = ap Some c.with_sign-in-11.ensures ∙ sym (ap narrow_kind c.in-11.is)

pub returns-in-12 : goal.returns-in-12
unfolding narrow_kind
returns-in-12 c = ap Some c.without_sign-in-12.ensures ∙ sym (ap narrow_kind c.in-12.is)

pub returns-in-13 : goal.returns-in-13
unfolding narrow_kind
returns-in-13 c = ap Some c.with_sign-in-13.ensures ∙ sym (ap narrow_kind c.in-13.is)

pub returns-in_default : goal.returns-in_default
returns-in_default c = search (rules, no_kind)
