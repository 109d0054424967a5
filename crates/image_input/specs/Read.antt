-- Reading an input into a buffer. Which bytes a read of the system's brings no contract can say; of an input whose bytes are known, as one over
-- memory, the buffer has them.
use Rattle.std.specs.Prelude.{◌≡◌, None, Some, List, ℕ, ◌<◌, length, take, ⊤}
use Rattle.std.specs.declared.option.Option.{Option}
use Rattle.image_input.specs.declared.End.{End}
use Rattle.image_input.specs.declared.End.TheVariants.{Input, Buffer, Failure}

-- reading is over after `at` bytes, in a buffer of `size`: a read brought nothing or failed before the buffer was full, or the buffer is full
abbrev pub Over : ℕ → ℕ → End → Type 0
Over size at Input = at < size
Over size at Buffer = at ≡ size
Over size at Failure = at < size

-- where a read failed the input could not be read; else it was read, so many bytes of it
abbrev pub bytes_of : ℕ → End → Option ℕ
bytes_of at Input = Some at
bytes_of at Buffer = Some at
bytes_of at Failure = None

-- the first n bytes of a buffer are what was read of an input: all of it, or as much as the buffer holds
abbrev pub ReadOf : List ℕ → ℕ → List ℕ → Type 0
ReadOf buf n input = take n buf ≡ take (length buf) input

-- reading being over after `at` bytes, what the buffer has of an input whose bytes are known: unless a read failed, its first bytes are what was
-- read of it
abbrev pub Holds : Option (List ℕ) → List ℕ → ℕ → End → Type 0
Holds None buf at end = ⊤
Holds (Some input) buf at Input = ReadOf buf at input
Holds (Some input) buf at Buffer = ReadOf buf at input
Holds (Some input) buf at Failure = ⊤
