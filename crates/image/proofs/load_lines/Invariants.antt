-- Each turn takes one line more: by `Reading`, the lines from `at` on, read after what the state and the slices hold, give what
-- the whole image gives. The bytes left fall.

use Rattle.std.proofs.Common.{◌≡◌, ◌-◌, length}
use Rattle.image_store.specs.Tables.{SameTables}
use Rattle.image.specs.Reading.{work}
use Rattle.image.proofs.Reading.{Reading}
use Rattle.image.proofs.load_lines.Given as goal

abbrev pub invariant-loop-at : goal.invariant-loop-at
invariant-loop-at l =
    record {
      long : length l.bytes ≡ length l.initial.bytes;
      same : SameTables l.initial.tables l.tables;
      reading : Reading l.image (work l.initial.bytes l.initial.tables) (work l.bytes l.tables) l.s l.at l.k;
    }

abbrev pub decreases-loop-at : goal.decreases-loop-at
decreases-loop-at l = length l.image - l.at
