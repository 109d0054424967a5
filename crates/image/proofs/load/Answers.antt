-- A slice that is too short and an image that is too long are refused before `load_roomy` is called; what that one reads is document 01's
-- image, by `same_load`.

use Rattle.image.specs.Answer.{slices}
use Rattle.image.proofs.Reading.{loads_short, short_bytes, short_ends, short_kinds, short_payloads, short_table, loads_long, loads_whole, loads_in}
use Rattle.std.proofs.Common.{rules}
use Rattle.image.proofs.Nested.{same_load}
use Rattle.image.proofs.load.Goals as goal
use Rattle.image.proofs.load.Goals.{
  then-bytes-lt-BYTES-via-then-bytes-lt-BYTES,
  then-bytes-lt-BYTES-via-else-bytes-lt-BYTES+then-ends-lt-ENDS,
  then-bytes-lt-BYTES-via-else-bytes-lt-BYTES+else-ends-lt-ENDS+then-kinds-lt-KINDS,
  then-bytes-lt-BYTES-via-else-bytes-lt-BYTES+else-ends-lt-ENDS+else-kinds-lt-KINDS+then-payloads-lt-PAYLOADS,
  then-bytes-lt-BYTES-via-else-bytes-lt-BYTES+else-ends-lt-ENDS+else-kinds-lt-KINDS+else-payloads-lt-PAYLOADS+then-table-lt-TABLE,
}

pub returns-then-bytes-lt-BYTES : goal.returns-then-bytes-lt-BYTES
returns-then-bytes-lt-BYTES c =
    let a = c.args in
    let m = slices a.bytes.now a.ends.now a.kinds.now a.payloads.now a.table.now in
    loads_short a.image.now m (elim c.then-bytes-lt-BYTES.branch [
      | then-bytes-lt-BYTES-via-then-bytes-lt-BYTES w ↦ short_bytes m w.if-bytes-lt-BYTES.true
      | then-bytes-lt-BYTES-via-else-bytes-lt-BYTES+then-ends-lt-ENDS w ↦ short_ends m w.if-ends-lt-ENDS.true
      | then-bytes-lt-BYTES-via-else-bytes-lt-BYTES+else-ends-lt-ENDS+then-kinds-lt-KINDS w ↦ short_kinds m w.if-kinds-lt-KINDS.true
      | then-bytes-lt-BYTES-via-else-bytes-lt-BYTES+else-ends-lt-ENDS+else-kinds-lt-KINDS+then-payloads-lt-PAYLOADS w ↦ short_payloads m w.if-payloads-lt-PAYLOADS.true
      | then-bytes-lt-BYTES-via-else-bytes-lt-BYTES+else-ends-lt-ENDS+else-kinds-lt-KINDS+else-payloads-lt-PAYLOADS+then-table-lt-TABLE w ↦ short_table m w.if-table-lt-TABLE.true
    ])

pub returns-then-image-gt-IMAGE_MOST : goal.returns-then-image-gt-IMAGE_MOST
returns-then-image-gt-IMAGE_MOST c =
    let if4 = c.if-payloads-lt-PAYLOADS in
    let if3 = c.if-kinds-lt-KINDS in
    let if2 = c.if-ends-lt-ENDS in
    let if1 = c.if-bytes-lt-BYTES in
    let args = c.args in
    loads_long args.image.now _ (record {
      room_bytes = if1.false;
      room_ends = if2.false;
      room_kinds = if3.false;
      room_payloads = if4.false;
      room_table = c.if-table-lt-TABLE.false;
    }) c.if-image-gt-IMAGE_MOST.true

pub returns : goal.returns
returns c =
    let tables = c.load_roomy.new.tables in
    loads_in {e = tables.ends.now} {k = tables.kinds.now} {p = tables.payloads.now} {t = tables.table.now} (search rules) (search rules) (search rules) (search rules)
    (loads_whole c.args.image.now _ _ _ (record {
      room_bytes = c.if-bytes-lt-BYTES.false;
      room_ends = c.if-ends-lt-ENDS.false;
      room_kinds = c.if-kinds-lt-KINDS.false;
      room_payloads = c.if-payloads-lt-PAYLOADS.false;
      room_table = c.if-table-lt-TABLE.false;
    }) c.if-image-gt-IMAGE_MOST.false (same_load c.args.image.now) c.load_roomy.ensures.settled)
