-- The work memory that every operation is lent for `load`: "All work memory is zero after every operation."
use Rattle.image.specs.Answer.{Slices}
use Rattle.clearing.specs.Zero.{AllZero}

-- the slices that `load` works in, each zero to its end
pub record LoadZero (m : Slices) : Type 0 where
  pub bytes : AllZero m.bytes
  pub ends : AllZero m.ends
  pub kinds : AllZero m.kinds
  pub payloads : AllZero m.payloads
  pub table : AllZero m.table
