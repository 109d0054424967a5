-- Each of the five is cleared up to its named length, and `cleared` says what the whole of it is then.

use Rattle.image.proofs.Blanking.{cleared, same_slices}
use Rattle.image.proofs.blank.Goals as goal

pub returns-clause-zero : goal.returns-clause-zero
returns-clause-zero c =
    let tables = c.args.tables.now in
    same_slices
    (let done = c.clear in cleared 32768 c.args.bytes.now done.new.a done.auto.a c.requires done.ensures)
    (let done = c.clear-2 in cleared 256 tables.ends.now done.new.a done.auto.a tables.room_ends done.ensures)
    (let done = c.clear-3 in cleared 13107 tables.kinds.now done.new.a done.auto.a tables.room_kinds done.ensures)
    (let done = c.clear-4 in cleared 13107 tables.payloads.now done.new.a done.auto.a tables.room_payloads done.ensures)
    (let done = c.clear-5 in cleared 260 tables.table.now done.new.a done.auto.a tables.room_table done.ensures)
