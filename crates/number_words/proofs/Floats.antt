-- The word of what an operation of IEEE 754 answers, for every operation and both formats. Assumes nothing.
use mathlib.Core.Path.{◌≡◌, ap, ◌∙◌}
use Prim.Native.Nat.{ℕ}
use lib.Dec.{T}
use lib.Ieee.{Format, Float, fits, to_bits, of_bits}
use lib.Ieee.Bits.{of_bits-to_bits}
use lib.Ieee.Fits.{add-fits, sub-fits, mul-fits, div-fits}
use Rattle.number_words.specs.declared.FloatOperation.{FloatOperation}
use Rattle.number_words.specs.declared.FloatOperation.TheVariants.{Add, Sub, Mul, Div}
use Rattle.number_words.specs.Words.{FloatWord, operation_of}

operation-fits : (o : FloatOperation) (f : Format) (x y : Float) → T (fits f (operation_of o f x y))
operation-fits Add f x y = add-fits f x y
operation-fits Sub f x y = sub-fits f x y
operation-fits Mul f x y = mul-fits f x y
operation-fits Div f x y = div-fits f x y

-- x and y the floats that were read from their words, a and b the floats that the words are; z the float that was computed
pub float_word : (o : FloatOperation) (f : Format) {x y a b z : Float} {w : ℕ} → w ≡ to_bits f z → z ≡ operation_of o f x y → x ≡ a → y ≡ b → FloatWord f (operation_of o f a b) w
float_word o f {x} {y} {a} {b} {z} {w} e ez ex ey =
    rw (← ex, ← ey) (let word : w ≡ to_bits f (operation_of o f x y) = e ∙ ap (to_bits f) ez in record { word = word; back = ap (of_bits f) word ∙ of_bits-to_bits f (operation_of o f x y) (operation-fits o f x y) })
