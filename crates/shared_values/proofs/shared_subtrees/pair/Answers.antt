-- The two stores leave x and y in the four words, so what `build_sequence` promises is the value of these two: by `paired`.

use Rattle.shared_values.proofs.Nesting.{paired}
use Rattle.shared_values.proofs.shared_subtrees.pair.Goals as goal

pub returns : goal.returns
returns c =
    let build_sequence = c.build_sequence in
    let store_value2 = c.store_value-2 in
    let store_value = c.store_value in
    let args = c.args in
    paired _ _ args.x args.y args.nc args.cells.now _ build_sequence.result store_value.ensures store_value2.ensures
    build_sequence.ensures
