-- The answer decides `SameChunk`: names of two classes tell the chunks apart (`other_chunk`), and where the class is one the arities decide
-- (`chunk_decides`).

use Rattle.value_equality.specs.Classes.{class_of}
use mathlib.Core.Path.{ap, ◌∙◌}
use Rattle.value_equality.proofs.ClassLaws.{other_chunk, chunk_decides}
use Rattle.value_equality.proofs.classes.same_chunk.Goals as goal

pub returns-then-x-y : goal.returns-then-x-y
returns-then-x-y c =
    let row_number2 = c.row_number-2 in
    let class_x = c.class_of-x in
    let row_number = c.row_number in
    let args = c.args in
    other_chunk args.rows.now args.n args.texts.now args.a args.b class_x.result c.class_of-y.result (class_x.ensures
    ∙ ap (class_of args.texts.now) row_number.ensures) (c.class_of-y.ensures ∙ ap (class_of args.texts.now) row_number2.ensures)
    c.if-x-y.true

pub returns : goal.returns
returns c =
    let if1 = c.if-x-y in
    let class_of2 = c.class_of-y in
    let row_number2 = c.row_number-2 in
    let class_x = c.class_of-x in
    let row_number = c.row_number in
    let args = c.args in
    chunk_decides args.rows.now args.n args.texts.now args.a args.b class_x.result class_of2.result c.row_number-p.result
    c.row_number-q.result (class_x.ensures ∙ ap (class_of args.texts.now) row_number.ensures) (class_of2.ensures ∙ ap (class_of
    args.texts.now) row_number2.ensures) if1.false c.row_number-p.ensures c.row_number-q.ensures
