-- Three ways: no line feed, digits that are no line, or a line that `record_of`, `accept` and `finish` take. Each is the reading's next step,
-- and leaves the slices as they were behind what is read into them.

use native.Mathlib.Omega.{arith}
use mathlib.Core.Path.{◌≡◌, refl}
use mathlib.Core.List.{◌++◌}
use Prim.Native.Nat.{ℕ, ◌-◌, ◌≤◌, ◌<◌}
use lib.ListN.{length, take, drop}
use Rattle.image.specs.Answer.{slices}
use Rattle.image.proofs.Reading.{read_good, bytes_kept, fault_line, open_line, bad_line, fine_here, line_taken}
use Rattle.image.proofs.take_line.Goals as goal

inside : {a b : ℕ} → a ≤ b → (a ≡ b → ⊥) → a < b
inside h n = omega arith

pub returns-then-end-image-clause-takes : goal.returns-then-end-image-clause-takes
returns-then-end-image-clause-takes c =
    let args = c.args in
    let pre = c.requires in
    rw c.at_line.ensures
    (open_line args.image.now args.s args.at c.line_end-end.result args.k _ c.line_end-end.ensures.within.0 c.line_end-end.ensures.before pre.0
    c.if-end-image.true)

pub accept-t-requires : goal.accept-t-requires
accept-t-requires c =
    let record_of = c.record_of in
    let some = c.in-Some in
    let read_line = c.read_line in
    let if1 = c.if-end-image in
    let line_end = c.line_end-end in
    let args = c.args in
    let pre = c.requires in
    let g = read_good args.image.now read_line.new.out read_line.result _ args.at line_end.result _ some.is line_end.ensures.within.0
    line_end.ensures.within.1 read_line.ensures.says read_line.ensures.fits in
    record {
      few_bytes = omega (arith, g.digits, pre.4.few_bytes, pre.1, line_end.ensures.within);
      few_constants = omega (arith, g.digits, pre.4.few_constants, pre.1, line_end.ensures.within);
      few_texts = pre.4.few_texts;
      few_chunks = pre.4.few_chunks;
      as_rows = pre.4.as_rows;
      short_code = pre.4.short_code;
      few_own = pre.4.few_own;
      fine = fine_here args.image.now args.bytes.now read_line.new.out (drop (length args.bytes.now - args.s.bytes) (drop
          args.s.bytes args.bytes.now)) args.s args.at line_end.result some.line.size some.line.tag c.in-Ok.r
          (omega (arith, pre.4.few_bytes, pre.3, pre.0, pre.1)) (rw read_line.auto.out g.fits) (rw c.in-Ok.is at record_of.ensures) g.line_is;
    }

pub returns-in_default-clause-takes : goal.returns-in_default-clause-takes
returns-in_default-clause-takes c =
    let read_line = c.read_line in
    let if1 = c.if-end-image in
    let line_end = c.line_end-end in
    let args = c.args in
    let pre = c.requires in
    let h = inside line_end.ensures.within.1 if1.false in
    rw c.at_line-in_default.ensures (bad_line args.image.now args.s read_line.result read_line.new.out args.at line_end.result args.k (slices args.bytes.now args.tables.now.ends.now args.tables.now.kinds.now args.tables.now.payloads.now args.tables.now.table.now) (slices (take args.s.bytes args.bytes.now ++
    (read_line.new.out ++ (drop (length args.bytes.now - args.s.bytes) (drop args.s.bytes args.bytes.now)))) args.tables.now.ends.now
    args.tables.now.kinds.now args.tables.now.payloads.now args.tables.now.table.now) c.in_default.is line_end.ensures.within.0 line_end.ensures.before
    h (line_end.ensures.found h) read_line.ensures.says (record {
      same_bytes = (bytes_kept args.image.now args.bytes.now
          read_line.new.out args.s args.at line_end.result pre.4 line_end.ensures.within.0 line_end.ensures.within.1 pre.1 pre.3
          read_line.auto.out read_line.ensures.behind);
      same_ends = refl;
      same_kinds = refl;
      same_payloads = refl;
      same_table = refl;
    }))

pub returns-in-Err-clause-takes : goal.returns-in-Err-clause-takes
returns-in-Err-clause-takes c =
    let record_of = c.record_of in
    let some = c.in-Some in
    let read_line = c.read_line in
    let line_end = c.line_end-end in
    let args = c.args in
    let pre = c.requires in
    let g = read_good args.image.now read_line.new.out read_line.result _ args.at line_end.result _ some.is line_end.ensures.within.0
    line_end.ensures.within.1 read_line.ensures.says read_line.ensures.fits in
    let h = inside line_end.ensures.within.1 c.if-end-image.false in
    rw c.at_line-in-Err.ensures (fault_line args.image.now args.bytes.now read_line.new.out (drop (length args.bytes.now - args.s.bytes) (drop args.s.bytes
    args.bytes.now)) args.tables.now.ends.now args.tables.now.kinds.now args.tables.now.payloads.now args.tables.now.table.now args.s args.at line_end.result some.line.size some.line.tag args.k c.in-Err.reason (omega (
      arith,
      pre.4.few_bytes,
      pre.3,
      pre.0,
      pre.1,
    )) (rw read_line.auto.out g.fits) line_end.ensures.within.0 h (rw c.in-Err.is at record_of.ensures) line_end.ensures.before (line_end.ensures.found h) g.line_is
    (bytes_kept args.image.now args.bytes.now read_line.new.out args.s args.at line_end.result pre.4 line_end.ensures.within.0 line_end.ensures.within.1
    pre.1 pre.3 read_line.auto.out read_line.ensures.behind))

pub returns-clause-takes : goal.returns-clause-takes
returns-clause-takes c =
    let accept = c.accept-t in
    let record_of = c.record_of in
    let some = c.in-Some in
    let read_line = c.read_line in
    let if1 = c.if-end-image in
    let line_end = c.line_end-end in
    let args = c.args in
    let pre = c.requires in
    let g = read_good args.image.now read_line.new.out read_line.result _ args.at line_end.result _ some.is line_end.ensures.within.0
    line_end.ensures.within.1 read_line.ensures.says read_line.ensures.fits in
    let h = inside line_end.ensures.within.1 if1.false in
    line_taken args.image.now args.bytes.now read_line.new.out (drop (length args.bytes.now - args.s.bytes) (drop args.s.bytes
    args.bytes.now)) _ _ _ _ _ _ _ _ args.s _ args.at line_end.result some.line.size _ args.k _ _ (omega (
      arith,
      pre.4.few_bytes,
      pre.3,
      pre.0,
      pre.1,
    )) (rw read_line.auto.out g.fits) line_end.ensures.within.0 h (rw c.in-Ok.is at record_of.ensures) accept.ensures.accepted
    c.finish.ensures line_end.ensures.before (line_end.ensures.found h) g.line_is g.digits pre.4 pre.1 (bytes_kept args.image.now
    args.bytes.now read_line.new.out args.s args.at line_end.result pre.4 line_end.ensures.within.0 line_end.ensures.within.1
    pre.1 pre.3 read_line.auto.out read_line.ensures.behind)
