-- What `inspect` of the crate `chunk` says of the search's chunk. Assumes nothing.
use mathlib.Core.Path.{◌≡◌, sym, ◌∙◌, ap}
use Prim.Native.Nat.{ℕ, ◌+◌, ◌<◌}
use native.Mathlib.Omega.{arith}
use lib.ListN.{length}
use Rattle.definition.specs.Image.{Chunk}
use Rattle.definition.specs.Decode as definition
use Rattle.chunk.specs.Fault.{static_number, number_of, Inspects}
use Rattle.chunk.specs.declared.Instr.{Instr}
use Rattle.chunk.specs.declared.StaticFault.{StaticFault}
use Rattle.chunk.specs.declared.StaticFault.TheVariants as fault
use Rattle.std.proofs.Common.{Result, Ok, Err}
use Rattle.chunk.proofs.Judging.{whole_found, behind}
use Rattle.stack_check.specs.Node.{node_of, node_at, NodeIs, Drawn, Here}
use Rattle.stack_check.specs.declared.Node.{Node}

module _ {c : Chunk} {p : ℕ} {i : Instr} (H : Here c p i) where
  pub drawn : length c.code < 9223372036854775808 + 65536 → Drawn i
  drawn l =
      let x = whole_found c.code p i H.decoded in
      (p, x.instr, record { is = x.is; room = omega (arith, (behind c.code p i H.decoded).within) })

  pub node_here : {n : Node} → NodeIs i n → n ≡ node_at c p
  unfolding node_at
  node_here N =
      let x = whole_found c.code p i H.decoded in
      N p x.instr x.is ∙ ap (node_of p) (sym x.decoded)

-- the answers of `inspect`
some_number : (f : StaticFault) → static_number f ≡ 0 → ⊥
some_number fault.Instruction e = omega arith
some_number fault.Loop e = omega arith
some_number fault.Constant e = omega arith

module _ {c : Chunk} {p : ℕ} {r : Result Instr StaticFault} (I : Inspects c p r) where
  pub is_faulty : {f : StaticFault} → r ≡ Err f → definition.fault c p ≡ 0 → ⊥
  is_faulty {f} e z = some_number f (sym (ap number_of e) ∙ I.number ∙ z)

  pub fault_number : {f : StaticFault} → r ≡ Err f → static_number f ≡ definition.fault c p
  fault_number e = sym (ap number_of e) ∙ I.number

  pub is_clean : {i : Instr} → r ≡ Ok i → definition.fault c p ≡ 0
  is_clean e = sym I.number ∙ ap number_of e

  pub is_here : {i : Instr} → r ≡ Ok i → Here c p i
  is_here {i} e = record { decoded = I.sound i e }
