-- The digits up to the loop's place are decoded into `out`, and the rest of `out` is as it was: so at every way out, on a wrong digit too.
use Rattle.std.proofs.Common.{◌≡◌, ◌+◌, ◌*◌, ◌-◌, ◌/◌, ◌<◌, [], ◌∷◌, length, take, drop, refl, sym, ◌∙◌, arith}
use lib.Seq.{drop-set-lt}
use Rattle.definition.specs.Lines.{bytes_of}
use Rattle.line_digits.proofs.Digits.{
  decode_stops,
  decode_more,
  decode_done,
  whole,
  fields_more,
  line_none,
  line_some,
  line_odd,
  line_long,
  line_short,
  decodes_stops,
  decodes_more,
  decodes_all,
  decoded_next,
  behind_next,
  writes_fields,
  writes_none,
  writes_short,
  writes_long,
  writes_odd,
}
use Rattle.line_digits.specs.Fields.{decoded}
use Rattle.line_digits.proofs.read_line.Goals as goal
use Rattle.line_digits.proofs.read_line.Goals.{
  then-many-lt2-via-then-many-lt2,
  then-many-lt2-via-else-many-lt2+then-many-gt512,
  then-many-lt2-via-else-many-lt2+else-many-gt512+then-many-eq1,
}

pub returns-then-many-lt2-clause-says : goal.returns-then-many-lt2-clause-says
returns-then-many-lt2-clause-says c =
    elim c.then-many-lt2.branch [
      | then-many-lt2-via-then-many-lt2 w ↦ line_short _ w.if-many-lt2.true
      | then-many-lt2-via-else-many-lt2+then-many-gt512 w ↦ line_long _ w.if-many-gt512.true
      | then-many-lt2-via-else-many-lt2+else-many-gt512+then-many-eq1 w ↦ line_odd _ w.if-many-eq1.true
    ]

pub returns-then-many-lt2-clause-leaves : goal.returns-then-many-lt2-clause-leaves
returns-then-many-lt2-clause-leaves c =
    elim c.then-many-lt2.branch [
      | then-many-lt2-via-then-many-lt2 w ↦ writes_short _ _ w.if-many-lt2.true
      | then-many-lt2-via-else-many-lt2+then-many-gt512 w ↦ writes_long _ _ w.if-many-gt512.true
      | then-many-lt2-via-else-many-lt2+else-many-gt512+then-many-eq1 w ↦ writes_odd _ _ w.if-many-eq1.true
    ]

pub returns-in_err-tag-clause-says : goal.returns-in_err-tag-clause-says
returns-in_err-tag-clause-says c =
    let digits = c.args.digits.now in
    let bad = sym c.byte_of.ensures ∙ c.in_err-tag.was in
    rw c.from_residual.ensures (line_none digits (decode_stops digits [] 0 (whole _) 1 refl (omega arith) bad))

pub returns-in_err-tag-clause-leaves : goal.returns-in_err-tag-clause-leaves
returns-in_err-tag-clause-leaves c =
    let bad = sym c.byte_of.ensures ∙ c.in_err-tag.was in
    writes_none c.args.digits.now _ (decodes_stops c.args.digits.now [] 0 refl 1 refl (omega arith) bad)

pub loop-i-init : goal.loop-i-init
loop-i-init c =
    let digits = c.args.digits.now in
    let good = sym c.byte_of.ensures ∙ c.in_ok-tag.was in
    record {
      bytes = decode_more digits [] 0 (whole _) c.in_ok-tag.tag 1 refl (omega arith) good;
      fields = decodes_more digits [] 0 refl c.in_ok-tag.tag 1 refl (omega arith) good;
      behind = λ n h. refl;
      rest = refl;
    }

pub returns-in_err-out-clause-says : goal.returns-in_err-out-clause-says
returns-in_err-out-clause-says c =
    let loop = c.loop-i in
    let digits = c.args.digits.now in
    let bad = sym c.byte_of-in-loop-i.ensures ∙ c.in_err-out.was in
    rw c.from_residual-in_err-out.ensures
    (line_none digits (decode_stops digits (c.in_ok-tag.tag ∷ take loop.i loop.out) (2 * loop.i + 2) loop.invariant.bytes (2 * loop.i + 3) (omega arith)
    (omega arith) bad))

pub returns-in_err-out-clause-leaves : goal.returns-in_err-out-clause-leaves
returns-in_err-out-clause-leaves c =
    let loop = c.loop-i in
    let digits = c.args.digits.now in
    let bad = sym c.byte_of-in-loop-i.ensures ∙ c.in_err-out.was in
    writes_fields digits loop.out c.args.out.now c.in_ok-tag.tag loop.i c.if-many-gt512.false c.if-many-eq1.false (omega (arith, c.requires))
    (decodes_stops digits (c.in_ok-tag.tag ∷ take loop.i loop.out) (2 * loop.i + 2) loop.invariant.fields (2 * loop.i + 3) (omega arith) (omega arith) bad) loop.invariant.rest

pub loop-i-preserved : goal.loop-i-preserved
loop-i-preserved c =
    let loop = c.loop-i in
    let digits = c.args.digits.now in
    let tag = c.in_ok-tag.tag in
    let v = c.in_ok-out.field-0 in
    let p = 2 * loop.i + 2 in
    let good = sym c.byte_of-in-loop-i.ensures ∙ c.in_ok-out.was in
    let next : 2 * (loop.i + 1) + 2 ≡ p + 2 = omega arith in
    let room : loop.i < length loop.out = omega (arith, c.requires) in
    let so_far = tag ∷ take loop.i loop.out in
    record {
      bytes = rw next (fields_more digits loop.out tag loop.i 0 v (bytes_of (drop (p + 2) digits)) room (decode_more digits so_far p loop.invariant.bytes v (2 * loop.i + 3) (omega arith) (omega arith) good));
      fields = rw next (decoded_next digits loop.out tag loop.i v (decoded (drop (p + 2) digits)) room (decodes_more digits so_far p loop.invariant.fields v (2 * loop.i + 3) (omega arith) (omega arith) good));
      behind = λ n h. drop-set-lt n loop.out loop.i _ (omega arith) ∙ loop.invariant.behind n h;
      rest = behind_next loop.out c.args.out.now loop.i v loop.invariant.rest;
    }

pub returns-clause-says : goal.returns-clause-says
returns-clause-says c =
    let loop = c.loop-i in
    let digits = c.args.digits.now in
    let end : loop.i ≡ length digits / 2 - 1 = omega arith in
    let p = 2 * loop.i + 2 in
    let done : p ≡ length digits = omega arith in
    rw (← end) (line_some digits c.in_ok-tag.tag (take loop.i loop.out) c.if-many-gt512.false
    (decode_done digits (c.in_ok-tag.tag ∷ take loop.i loop.out) p loop.invariant.bytes done))

pub returns-clause-leaves : goal.returns-clause-leaves
returns-clause-leaves c =
    let loop = c.loop-i in
    let digits = c.args.digits.now in
    let p = 2 * loop.i + 2 in
    let done : p ≡ length digits = omega arith in
    writes_fields digits loop.out c.args.out.now c.in_ok-tag.tag loop.i c.if-many-gt512.false c.if-many-eq1.false (omega (arith, c.requires))
    (decodes_all digits (c.in_ok-tag.tag ∷ take loop.i loop.out) p loop.invariant.fields done) loop.invariant.rest
