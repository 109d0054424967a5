-- A number and its payload, as images and results hold it: what the crate values says of the two words of a value.
use Rattle.std.specs.Prelude.{ℕ, Option, Some, None}
use Rattle.std.proofs.Math.Option as Math
use Rattle.numbers.specs.declared.Number.{Number}
use Rattle.definition.specs.Shape.{number_of}
use Rattle.values.specs.Words.{number_word, value_at}
use Rattle.values.specs.Flat.{head_of}

-- "the number's own width", and "NaN is 7FF8000000000000 or 7FC00000", which is what `to_bits` gives
abbrev pub payload_of : Number → ℕ
payload_of a = number_word a

abbrev pub found : Math.Option Number → Option Number
found Math.none = None
found (Math.some n) = Some n

-- ---- back, by the kind's code; "Kinds 0 to 13 and 20 only" of a constant, of which ten are numbers
abbrev pub number_of_payload : ℕ → ℕ → Option Number
number_of_payload code w = found (number_of (head_of (value_at code w)))
