-- A number past the texts names an empty one (`text_past`); another text's bytes begin where the text before it ends (`text_there`).

use mathlib.Core.Path.{◌≡◌, ap, sym, ◌∙◌}
use Prim.Native.Nat.{ℕ, ◌-◌}
use borrow.Author.Tests.{eq-eqb, ne_eqb}
use lib.ListN.{get_or, take, drop}
use Rattle.value_equality.specs.Classes.{start_of}
use Rattle.value_equality.proofs.ClassLaws.{text_past, text_there}
use Rattle.value_equality.proofs.classes.Texts.text.Goals as goal
use Rattle.value_equality.proofs.classes.Texts.text.Goals.{then-t-eq0, else-t-eq0}

pub returns-then-self-t : goal.returns-then-self-t
returns-then-self-t c =
    let texts = c.args.self.now in
    sym (text_past texts.bytes.now texts.ends.now texts.n c.args.t c.if-self-t.true)

pub returns : goal.returns
returns c =
    let texts = c.args.self.now in
    let start : c.if-t-eq0.start ≡ start_of texts.ends.now c.args.t = elim c.if-t-eq0.branch [
      | then-t-eq0 w ↦ rw (w.if-t-eq0.true) w.start-is
      | else-t-eq0 w ↦ rw (ne_eqb c.args.t 0 w.if-t-eq0.false) w.start-is
    ] in
    ap (λ (s : ℕ). take (get_or texts.ends.now c.args.t 0 - s) (drop s texts.bytes.now)) start
    ∙ sym (text_there texts.bytes.now texts.ends.now texts.n c.args.t c.if-self-t.false)
