-- The digits up to the loop's place are decoded into `out`, and the rest of `out` is as it was: so at every way out, on a wrong digit too.
use Rattle.std.proofs.Common.{◌≡◌, ℕ, ◌+◌, ◌*◌, ◌≤◌, ◌∷◌, ◌++◌, length, take, drop}
use Rattle.definition.specs.Lines.{bytes_of}
use Rattle.line_digits.proofs.Digits.{prepend}
use Rattle.line_digits.specs.Fields.{decoded}
use Rattle.line_digits.proofs.read_line.Given as goal

abbrev pub invariant-loop-i : goal.invariant-loop-i
invariant-loop-i l = record {
  bytes : bytes_of l.digits ≡ prepend (l.tag ∷ take l.i l.out) (bytes_of (drop (2 * l.i + 2) l.digits));
  fields : decoded l.digits ≡ (l.tag ∷ take l.i l.out) ++ decoded (drop (2 * l.i + 2) l.digits);
  behind : (n : ℕ) → length l.digits ≤ 2 * n → drop n l.out ≡ drop n l.initial.out;
  rest : drop l.i l.out ≡ drop l.i l.initial.out;
}
