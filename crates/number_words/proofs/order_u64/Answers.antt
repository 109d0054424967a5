-- The order of the words is that of the numbers (`same_order`).

use mathlib.Core.Path.{refl, ◌∙◌}
use lib.IntN.{pos}
use Rattle.number_words.proofs.Places.{same_order}
use Rattle.number_words.proofs.order_u64.Goals as goal

pub returns : goal.returns
returns c = c.cmp.ensures ∙ same_order c.args.p c.args.q (pos c.args.p) (pos c.args.q) refl refl
