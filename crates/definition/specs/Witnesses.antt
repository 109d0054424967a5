-- So that nothing is true of nothing: images that pass the check, with every instruction in one of them; images that fail it with each number;
-- and a call that returned by a propagated Err.
use Rattle.std.specs.Prelude.{List, [], ◌∷◌, ◌++◌, ◌≡◌, ℕ}
use Prim.Native.String.{String}
use Rattle.definition.specs.Image.{Constant, Chunk, Image}
use Rattle.definition.specs.Lines.{image, load_image}
use Rattle.definition.specs.Runner.{ascii}
use Rattle.definition.specs.Trees.{trees}
use Rattle.definition.specs.Run.{run, at}
use Rattle.definition.specs.CheckAnswer.{pass, fails, Answers}
use Rattle.definition.specs.Answers.{checked, AnswersLoaded}
use Rattle.definition.specs.Callers.{CallReturned, Kept}
use Rattle.definition.specs.Claims.{ReturnedBy}

abbrev chunk : ℕ → List Constant → List ℕ → Chunk
chunk a ks c = record { arity = a; name = 0; constants = ks; code = c }

-- one text, t
abbrev image_of : List Chunk → Image
image_of cs = record { texts = (0x74 ∷ []) ∷ []; chunks = cs }

-- f(x) = Err(x), propagated; called twice with 7 from the top:
-- Const 0, Const 1, Call 1, Pop, Const 0, Const 1, Call 1, Return; GetLocal 0, Err, Propagate, Pop
abbrev pub calls : Image
calls =
    image_of (chunk 0 (record { kind = 20; payload = 1 } ∷ record { kind = 1; payload = 7 } ∷ [])
    (0 ∷ 0 ∷ 0 ∷ 0 ∷ 0 ∷ 1 ∷ 25 ∷ 0 ∷ 1 ∷ 18 ∷ 0 ∷ 0 ∷ 0 ∷ 0 ∷ 0 ∷ 1 ∷ 25 ∷ 0 ∷ 1 ∷ 19 ∷ [])
    ∷ chunk 1 [] (13 ∷ 0 ∷ 0 ∷ 27 ∷ 28 ∷ 18 ∷ []) ∷ [])

-- an unknown instruction behind a Jump over another one, which nothing reaches; a Loop before offset 0; a constant missing; an Add on nothing,
-- in a chunk before one with an unknown instruction
abbrev pub unknown : Image
unknown = image_of (chunk 0 [] (22 ∷ 0 ∷ 1 ∷ 99 ∷ 38 ∷ []) ∷ [])

abbrev pub backward : Image
backward = image_of (chunk 0 [] (24 ∷ 0 ∷ 4 ∷ []) ∷ [])

abbrev pub missing : Image
missing = image_of (chunk 0 [] (0 ∷ 0 ∷ 0 ∷ []) ∷ [])

abbrev pub bare : Image
bare = image_of (chunk 0 [] (1 ∷ []) ∷ chunk 0 [] (38 ∷ []) ∷ [])

-- a chunk without code passes, and the fault of the next one is found
abbrev pub second : Image
second = image_of (chunk 0 [] [] ∷ chunk 0 [] (38 ∷ []) ∷ [])

abbrev pub calls_text : String
calls_text = "0174\n02000000\n03140001\n03010000000000000007\n040000000000011900011200000000000119000113\n02010000\n040D00001B1C12\n05\n"

-- Images that pass. A check that refuses every image with one of their instructions, or with one of their edges, is refuted by them.
unfoldable pub passing_images : List (List ℕ)
passing_images =
    -- every instruction: a branch that goes both ways, a Loop, a scope, a Cast, a kind test, calls of a function and of a closure. Const 0, DefineLocal
    -- 0, GetGlobal 0, Const 0, Add, Const 0, Sub, Const 0, Mul, Const 0, Div, Negate, SetGlobal 0, Pop, Const 1, Not, JumpIfFalse 6, Const 0, Jump 3,
    -- Const 1, Pop, GetGlobal 0, Const 0, Less, JumpIfFalse 3, Loop 13, PushScope, Const 0, DefineLocal 0, GetLocal 0, SetLocal 0, Pop, PopScope, Const
    -- 0, Const 0, Eq, Const 0, Const 0, NotEq, LessEq, Const 1, Greater, Const 1, GreaterEq, Pop, Const 0, Const 1, BuildArr 2, Const 0, Const 1,
    -- ArrSet, ArrLen, Const 0, BuildTuple 2, Const 0, Index, Ok, Propagate, Err, Propagate, Error, Cast 9, IsKind 22 2 1 2, Pop, Const 3, Const 0, Call
    -- 1, Pop, BuildClosure 3 0, Const 0, Call 1, Return; GetLocal 0, Return
    (ascii "0174\n02000000\n03010000000000000007\n030701\n03080000\n03140001\n"
    ++ ascii "040000001100000F000000000001000000020000000300000004051000001200000106170006000000160003000001120F00000000000917000318000D14000000\n"
    ++ ascii "041100000D00000E0000121500000000000007000000000000080A0000010B0000010C120000000000011E000200000000000122210000001F0002000000201A1C\n"
    ++ ascii "041B1C1D2400092500160002000100021200000300000019000112230003000000000019000113\n02010000\n040D000013\n05\n")
    -- a chunk each: a scope open at the end. PushScope
    -- a Jump past the end. Jump 65535
    -- a Loop to itself. Loop 3
    -- the end at two depths. Const 0, JumpIfFalse 1, PushScope
    -- a branch past the end, and bytes that nothing reaches. Const 0, JumpIfFalse 65535, Jump 1, byte 99, PushScope, Const 0, Return, byte 99
    -- instructions that overlap: Jump 5654 at 6 and at 7. Const 0, JumpIfFalse 1, bytes 22 22 22 22
    -- slots, capture starts, kinds and what a value is are not judged. GetLocal 65535, SetLocal 65535, DefineLocal 65535, GetGlobal 65535, SetGlobal
    -- 65535, Call 0, Pop, BuildClosure 1 65535, Negate, IsKind 65535 2 65535 2, Pop
    -- every target of a Cast; arrays and tuples of none, one and two. Const 0, Cast 0 to Cast 9, BuildArr 1, Pop, BuildArr 0, BuildTuple 0, BuildTuple
    -- 2, Pop
    -- no code
    ∷ (ascii "0174\n02000000\n0414\n02000000\n0416FFFF\n02000000\n04180003\n02000000\n030701\n0400000017000114\n02000000\n030701\n"
    ++ ascii "0400000017FFFF16000163140000001363\n02000000\n030701\n0400000017000116161616\n02000000\n03010000000000000001\n03140007\n03080000\n"
    ++ ascii "040DFFFF0EFFFF11FFFF0FFFFF10FFFF19000012230001FFFF0525FFFF0002FFFF000212\n02000000\n03010000000000000001\n"
    ++ ascii "040000002400002400012400022400032400042400052400062400072400082400091E0001121E00001F00001F000212\n02030000\n05\n")
    ∷ []

abbrev pub EachPasses : List (List ℕ) → Type 0
EachPasses [] = Unit {0}
EachPasses (bytes ∷ more) = AnswersLoaded (load_image bytes) (checked pass) × EachPasses more

pub record Witnessed : Type 0 where
  pub loads : load_image (ascii calls_text) ≡ image calls
  pub passing : Answers calls pass
  pub each_passes : EachPasses passing_images
  pub fault10 : Answers unknown (fails 10 0 4)
  pub fault11 : Answers backward (fails 11 0 0)
  pub fault12 : Answers missing (fails 12 0 0)
  pub fault13 : Answers bare (fails 13 0 0)
  pub in_second : Answers second (fails 10 1 0)
  -- state 2 stands before the first Call, state 6 behind its return, by a Propagate of an Err
  pub returned : CallReturned trees calls (run trees calls 20).states 2 6 1
  pub by_propagate : ReturnedBy trees calls (run trees calls 20).states 2 6
  pub kept : Kept 1 (at trees (run trees calls 20).states 2) (at trees (run trees calls 20).states 6)
