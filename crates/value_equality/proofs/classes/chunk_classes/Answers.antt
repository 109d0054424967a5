-- Each class is the first chunk that is the same (`first_found`), and a table full of these is one of classes (`chunk_tables`).

use mathlib.Core.Path.{refl}
use Rattle.std.proofs.Common.{of_calls}
use native.Mathlib.Omega.{arith}
use Rattle.value_equality.proofs.ClassLaws.{first_found, chunk_tables}
use Rattle.value_equality.proofs.classes.chunk_classes.Goals as goal

pub returns : goal.returns
returns c =
    let args = c.args in
    chunk_tables args.rows.now args.n args.texts.now c.fill_classes.new.classes (omega (arith, c.fill_classes.auto.classes, c.requires.1))
    (λ j l. first_found (λ u b p. search of_calls) (refl, refl) (c.fill_classes.ensures j l))
