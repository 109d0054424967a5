-- What the check answers, in the definition's terms.
use Rattle.std.specs.Prelude.{◌≡◌, List, ℕ, ◌+◌, ◌*◌, ◌-◌, ◌≤◌, ◌<◌, length, get_or, take, drop, Result, Ok, Err}
use Rattle.definition.specs.Image.{Chunk, Image, chunk_at}
use Rattle.definition.specs.StackCheck.{ChunkPasses}
use Rattle.definition.specs.CheckAnswer.{Checked, pass, fails, Wrong, Decides}
use Rattle.chunk.specs.Fault.{kinds_of}
use Rattle.image.specs.declared.loaded.Loaded.{Loaded}
use Rattle.stack_check.specs.declared.Reason.{Reason}
use Rattle.stack_check.specs.declared.Reason.TheVariants.{Instruction, Loop, Constant, NoHeights}
use Rattle.stack_check.specs.declared.ChunkFault.{ChunkFault}
use Rattle.stack_check.specs.declared.ImageFault.{ImageFault}

-- the answer for one chunk, and for an image
abbrev pub ChunkAnswer : Type 0
ChunkAnswer = Result (Unit {0}) ChunkFault

abbrev pub CheckAnswer : Type 0
CheckAnswer = Result (Unit {0}) ImageFault

-- document 01's numbers: "10 unknown instruction, operands cut, or Cast target over 9; 11 a Loop before offset 0; 12 a constant missing or not
-- of the kind needed", "13 at offset 0: no heights exist"
abbrev pub reason_number : Reason → ℕ
reason_number Instruction = 10
reason_number Loop = 11
reason_number Constant = 12
reason_number NoHeights = 13

-- the definition's answer that an answer of the code stands for
abbrev pub checked_of : CheckAnswer → Checked
checked_of (Ok u) = pass
checked_of (Err f) = fails (reason_number f.reason) f.chunk f.at

-- of one chunk: it passes, or number and offset are what is wrong with it
abbrev pub ChunkIs : Chunk → ChunkAnswer → Type 0
ChunkIs k (Ok u) = ChunkPasses k
ChunkIs k (Err f) = Wrong k (reason_number f.reason) f.at

-- the answer for every chunk with this code and constants of these kinds
abbrev pub ChunkDecided : List ℕ → List ℕ → ChunkAnswer → Type 0
ChunkDecided code kinds r = (k : Chunk) → k.code ≡ code → kinds_of k.constants ≡ kinds → ChunkIs k r

abbrev pub cut : ℕ → ℕ → List ℕ → List ℕ
cut from to l = take (to - from) (drop from l)

-- chunk c as it lies in the lent slices: its row of the table, four numbers, and the next one say where its constants' kinds and its code stand
pub record ChunkHeld (bytes kinds table : List ℕ) (c : ℕ) (k : Chunk) : Type 0 where
  pub row_within : 4 * c + 7 < length table
  pub constants_rise : get_or table (4 * c + 2) 0 ≤ get_or table (4 * c + 6) 0
  pub kinds_within : get_or table (4 * c + 6) 0 ≤ length kinds
  pub kinds_are : cut (get_or table (4 * c + 2) 0) (get_or table (4 * c + 6) 0) kinds ≡ kinds_of k.constants
  pub code_rises : get_or table (4 * c + 3) 0 ≤ get_or table (4 * c + 7) 0
  pub code_within : get_or table (4 * c + 7) 0 ≤ length bytes
  pub code_is : cut (get_or table (4 * c + 3) 0) (get_or table (4 * c + 7) 0) bytes ≡ k.code

-- some chunk lies at row c, with a code no longer than this
abbrev pub RowLent : Loaded → ℕ → ℕ → Type 0
RowLent m c room = (k : Chunk) × ChunkHeld m.bytes.now m.kinds.now m.table.now c k × (length k.code ≤ room)

-- the answer for every chunk that lies at row c
abbrev pub RowDecided : Loaded → ℕ → ChunkAnswer → Type 0
RowDecided m c r = (k : Chunk) → ChunkHeld m.bytes.now m.kinds.now m.table.now c k → ChunkIs k r

-- an image as it lies in the lent slices
pub record ImageHeld (bytes kinds table : List ℕ) (chunks : ℕ) (im : Image) : Type 0 where
  pub count : chunks ≡ length im.chunks
  pub held : (c : ℕ) → c < length im.chunks → ChunkHeld bytes kinds table c (chunk_at im c)

-- this image lies there
abbrev pub Holds : Loaded → Image → Type 0
Holds m im = ImageHeld m.bytes.now m.kinds.now m.table.now m.counts.chunks im

-- no chunk's code is longer than this
abbrev pub ImageRoomy : Image → ℕ → Type 0
ImageRoomy im room = (c : ℕ) → c < length im.chunks → length (chunk_at im c).code ≤ room

-- some image lies there, and there is room for it: what `load` gives, whose images have at most 4,096 bytes of code a chunk
abbrev pub Lent : Loaded → ℕ → Type 0
Lent m room = (im : Image) × Holds m im × ImageRoomy im room

-- exactly the definition's answer, for every image that lies there
abbrev pub Decided : Loaded → CheckAnswer → Type 0
Decided m r = (im : Image) → Holds m im → Decides im (checked_of r)

-- the chunks below n pass, of every image that lies there
abbrev pub PassBelow : Loaded → ℕ → Type 0
PassBelow m n = (im : Image) → Holds m im → (c : ℕ) → c < n → ChunkPasses (chunk_at im c)
