-- The entry within the table, the last one past it, 0 of an empty table: each is what `class_of` computes to.

use Rattle.value_equality.proofs.ClassLaws.{class_at, class_last, class_none}
use Rattle.value_equality.proofs.classes.class_of.Goals as goal

pub returns-then-k-n : goal.returns-then-k-n
returns-then-k-n c =
    let args = c.args in
    class_at args.classes.now args.i c.if-k-n.true

pub returns-then-n-eq0 : goal.returns-then-n-eq0
returns-then-n-eq0 c =
    let args = c.args in
    class_none args.classes.now args.i c.if-n-eq0.true

pub returns : goal.returns
returns c =
    let if1 = c.if-k-n in
    let args = c.args in
    class_last args.classes.now args.i if1.false
