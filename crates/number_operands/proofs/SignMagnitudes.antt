-- What a sign and a magnitude stands for, by its sign. Assumes nothing.
use Rattle.std.proofs.Common.{◌≡◌, Bool, true, false, pos, neg_ℤ, ap}
use Rattle.numbers.proofs.Signs.{signed}
use Rattle.number_operands.specs.declared.SignMagnitude.{SignMagnitude}
use Rattle.number_operands.specs.Operands.{value_of}

pub value_neg : (x : SignMagnitude) → x.negative ≡ true → value_of x ≡ neg_ℤ (pos x.magnitude)
value_neg x e = ap (λ (b : Bool). signed b x.magnitude) e

pub value_pos : (x : SignMagnitude) → x.negative ≡ false → value_of x ≡ pos x.magnitude
value_pos x e = ap (λ (b : Bool). signed b x.magnitude) e
