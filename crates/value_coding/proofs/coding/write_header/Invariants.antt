-- Each turn writes the lowest byte of the word, the last place first: the bytes still to be written are those of the word, the others stand behind
-- place j.

use Rattle.value_coding.proofs.Codes.{Tail}
use Rattle.value_coding.proofs.coding.write_header.Given as goal

abbrev pub invariant-loop-j : goal.invariant-loop-j
invariant-loop-j l = Tail l.initial.out l.at l.header.size l.header.word l.out l.word l.j
