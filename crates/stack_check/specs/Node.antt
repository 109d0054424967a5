-- Inner step: an instruction as the search works with it, made of the definition's instruction and its row of the definition's table.
use Rattle.std.specs.Prelude.{◌≡◌, Bool, true, false, List, map, ℕ, ◌+◌, ◌-◌, ◌<◌, ℤ, pos, Ok}
use Rattle.std.proofs.Math.Option.{Option, none, some}
use Rattle.definition.specs.Image.{Constant, Chunk}
use Rattle.definition.specs.Table as table
use Rattle.definition.specs.Decode as definition
use Rattle.chunk.specs.Table.{flow_of}
use Rattle.chunk.specs.Decode.{instr_of, decoded_at}
use Rattle.chunk.specs.declared.Flow.{Flow}
use Rattle.chunk.specs.declared.Flow.TheVariants.{Straight, Opens, Closes, Forward, Backward, Forks, Ends, MayEnd}
use Rattle.chunk.specs.declared.Instr.{Instr}
use Rattle.stack_check.specs.declared.FlowEffect.{FlowEffect}
use Rattle.stack_check.specs.declared.Node.{Node}
use Rattle.stack_check.specs.declared.ChunkCode.{ChunkCode}

abbrev effect : Bool → ℕ → ℕ → Bool → FlowEffect
effect e d o n = record { exact = e; drops = d; opens = o; ends = n }

-- whether the height must be just what is needed, how many scopes are closed and opened, and whether the frame is left
abbrev pub flow_effect : Flow → FlowEffect
flow_effect Straight = effect false 0 0 false
flow_effect Opens = effect false 0 1 false
flow_effect Closes = effect false 1 0 false
flow_effect Forward = effect false 0 0 false
flow_effect Backward = effect false 0 0 false
flow_effect Forks = effect false 0 0 false
flow_effect Ends = effect true 0 0 true
flow_effect MayEnd = effect true 0 0 false

-- where control goes from an instruction whose next is at `next`, with the first operand a
abbrev pub first_of : Flow → ℕ → ℕ → ℕ
first_of Straight next a = next
first_of Opens next a = next
first_of Closes next a = next
first_of Forward next a = next + a
first_of Backward next a = next - a
first_of Forks next a = next
first_of Ends next a = next
first_of MayEnd next a = next

abbrev pub second_of : Flow → ℕ → ℕ → ℕ
second_of Straight next a = next
second_of Opens next a = next
second_of Closes next a = next
second_of Forward next a = next + a
second_of Backward next a = next - a
second_of Forks next a = next + a
second_of Ends next a = next
second_of MayEnd next a = next

-- a node of an instruction with that flow
abbrev pub node_by : Flow → ℕ → ℤ → ℕ → ℕ → Node
node_by f need change next a =
    record {
      need = need;
      change = change;
      exact = (flow_effect f).exact;
      drops = (flow_effect f).drops;
      opens = (flow_effect f).opens;
      ends = (flow_effect f).ends;
      first = first_of f next a;
      second = second_of f next a;
    }

abbrev pub node_of : ℕ → Option definition.Instr → Node
node_of p none = node_by Ends 0 (pos 0) 0 0
node_of p (some i) = node_by (flow_of (table.row i.op).flow) (table.need i.op i.a) (table.change i.op i.a) (p + table.size i.op) i.a

-- the instruction at an offset of a chunk, where there is one
unfoldable pub node_at : Chunk → ℕ → Node
node_at c p = node_of p (definition.decode c.code p)

-- the code's i is the definition's d at p, and the cursor behind it is far from the greatest offset
pub record Taken (i : Instr) (p : ℕ) (d : definition.Instr) : Type 0 where
  pub is : i ≡ instr_of p d
  pub room : i.next.at < 9223372036854775808 + 65536

abbrev pub NodeIs : Instr → Node → Type 0
NodeIs i n = (p : ℕ) (d : definition.Instr) → i ≡ instr_of p d → n ≡ node_of p (some d)

abbrev pub Drawn : Instr → Type 0
Drawn i = (p : ℕ) × (d : definition.Instr) × Taken i p d

-- A chunk with this code and constants of these kinds. The check sees no more of a chunk, so the search is about this one; proofs/Alike.antt
-- takes what it finds to every chunk with the same code and kinds.
abbrev pub of_kind : ℕ → Constant
of_kind k = record { kind = k; payload = 0 }

abbrev pub chunk_of : List ℕ → List ℕ → Chunk
chunk_of code kinds = record { arity = 0; name = 0; constants = map of_kind kinds; code = code }

-- the same of the two slices
abbrev pub chunk_in : ChunkCode → Chunk
chunk_in c = chunk_of c.code.now c.kinds.now

-- at p of the chunk stands the whole instruction i
pub record Here (c : Chunk) (p : ℕ) (i : Instr) : Type 0 where
  pub decoded : decoded_at c.code p ≡ Ok i
