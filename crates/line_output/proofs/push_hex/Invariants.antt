-- Behind what stood before is the hexadecimal of the bytes so far, two digits each.
use Rattle.std.proofs.Common.{◌≡◌, ◌++◌, ◌+◌, ◌*◌, length, take}
use Rattle.definition.specs.Runner.{hex}
use Rattle.line_output.proofs.push_hex.Given as goal

abbrev pub invariant-loop-byte : goal.invariant-loop-byte
invariant-loop-byte g l =
    (l.line.bytes ≡ l.initial.line.bytes ++ hex (take l.byte-index l.bytes))
    × (length l.line.bytes ≡ length l.initial.line.bytes + 2 * l.byte-index)
