-- What a caller of `load` reads in the work slices, by the laws that the crate image gives: an instruction byte and a constant of a chunk.
use mathlib.Core.Path.{◌≡◌}
use mathlib.Core.List.{List}
use Prim.Native.Nat.{ℕ, ◌+◌, ◌*◌, ◌<◌}
use lib.ListN.{length, get_or}
use Rattle.definition.specs.Image.{chunk_at}
use Rattle.definition.specs.Loaded.{no_constant}
use Rattle.std.proofs.Common.{Ok}
use Rattle.image.specs.Answer.{Slices, LoadAnswer, Loads}
use Rattle.image.specs.Held.{Found}
use Rattle.image.specs.declared.Counts.{Counts}
use Rattle.image.proofs.Found.{found, code_at, payload_at}

below : {a b x y : ℕ} → a ≡ b → x ≡ y → b < y → a < x
below p q h = rw (p, q) h

module _ (bytes : List ℕ) (m m' : Slices) (r : LoadAnswer) (n : Counts) (q : r ≡ Ok n) (l : Loads bytes m r m') where
  abbrev here : Found bytes m m' n
  here = found bytes m m' r n q l

  instruction_byte :
      (c i : ℕ) → c < length here.found.chunks → i < length (chunk_at here.found c).code
      → get_or m'.bytes (get_or m'.table (4 * c + 3) 0 + i) 0 ≡ get_or (chunk_at here.found c).code i 0
  instruction_byte c i h g = code_at m' c (chunk_at here.found c) (here.held.chunks_held c h) i g

  function_constant_there :
      (c k : ℕ) → c < length here.found.chunks → k < length (chunk_at here.found c).constants
      → (get_or (chunk_at here.found c).constants k no_constant).kind ≡ 20 → get_or m'.payloads (get_or m'.table (4 * c + 2) 0 + k) 0 < n.chunks
  function_constant_there c k h g e =
      below (payload_at m' c (chunk_at here.found c) (here.held.chunks_held c h) k g) here.held.chunk_count
      (((here.kept.chunks_kept c h).constants k g).function_there e)
