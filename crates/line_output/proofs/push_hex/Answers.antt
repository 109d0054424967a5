-- A byte more is two digits more.
use Rattle.line_output.proofs.Shown.{hex_pushed, two_longer}
use Rattle.line_output.proofs.push_hex.Goals as goal

pub loop-byte-preserved : goal.loop-byte-preserved
loop-byte-preserved g c =
    let high = c.push.ensures.ascii c.hex_digit.ensures.ascii in
    let low = c.push-in-loop-byte.ensures.ascii c.hex_digit-in-loop-byte.ensures.ascii in (
      hex_pushed _ _ _ _ _ _ _ _ c.loop-byte-test.true c.hex_digit.ensures.digit c.hex_digit-in-loop-byte.ensures.digit c.loop-byte.invariant.0 high low,
      two_longer _ _ _ _ _ _ _ high low c.loop-byte.invariant.1,
    )
