-- A chunk and a text of a loaded image as they lie in the work slices: what a caller of `load` works with. proofs/Found.antt gives `Found` from
-- what `load` ensures.
use Rattle.std.specs.Prelude.{◌≡◌, false, List, ◌∷◌, map, ℕ, ◌+◌, ◌*◌, ◌-◌, ◌≤◌, ◌<◌, length, get_or, take, drop}
use Rattle.definition.specs.Image.{Chunk, Image, chunk_at, text_at}
use Rattle.definition.specs.Lines.{image, load_image}
use Rattle.definition.specs.Loaded.{ImageKept}
use Rattle.image.specs.Answer.{Slices, kind_of, payload_of, short}
use Rattle.image.specs.declared.Counts.{Counts}

abbrev pub cut : ℕ → ℕ → List ℕ → List ℕ
cut from to l = take (to - from) (drop from l)

-- chunk c: its row and the next one say where its constants and its code stand
pub record HeldChunk (m : Slices) (c : ℕ) (d : Chunk) : Type 0 where
  pub row_within : 4 * c + 7 < length m.table
  pub arity_is : get_or m.table (4 * c) 0 ≡ d.arity
  pub name_is : get_or m.table (4 * c + 1) 0 ≡ d.name
  pub constants_rise : get_or m.table (4 * c + 2) 0 ≤ get_or m.table (4 * c + 6) 0
  pub kinds_within : get_or m.table (4 * c + 6) 0 ≤ length m.kinds
  pub payloads_within : get_or m.table (4 * c + 6) 0 ≤ length m.payloads
  pub kinds_are : cut (get_or m.table (4 * c + 2) 0) (get_or m.table (4 * c + 6) 0) m.kinds ≡ map kind_of d.constants
  pub payloads_are : cut (get_or m.table (4 * c + 2) 0) (get_or m.table (4 * c + 6) 0) m.payloads ≡ map payload_of d.constants
  pub code_rises : get_or m.table (4 * c + 3) 0 ≤ get_or m.table (4 * c + 7) 0
  pub code_within : get_or m.table (4 * c + 7) 0 ≤ length m.bytes
  pub code_is : cut (get_or m.table (4 * c + 3) 0) (get_or m.table (4 * c + 7) 0) m.bytes ≡ d.code

-- text t: it starts where the one before it ends, the first one at 0
pub record HeldText (m : Slices) (t : ℕ) (x : List ℕ) : Type 0 where
  pub end_within : t < length m.ends
  pub text_rises : get_or (0 ∷ m.ends) t 0 ≤ get_or m.ends t 0
  pub text_within : get_or m.ends t 0 ≤ length m.bytes
  pub text_is : cut (get_or (0 ∷ m.ends) t 0) (get_or m.ends t 0) m.bytes ≡ x

pub record Held (m : Slices) (n : Counts) (im : Image) : Type 0 where
  pub text_count : n.texts ≡ length im.texts
  pub chunk_count : n.chunks ≡ length im.chunks
  pub chunks_held : (c : ℕ) → c < length im.chunks → HeldChunk m c (chunk_at im c)
  pub texts_held : (t : ℕ) → t < length im.texts → HeldText m t (text_at im t)

-- what a caller has when `load` of these bytes answers `Ok n`, with the slices m before and m' after
pub record Found (bytes : List ℕ) (m m' : Slices) (n : Counts) : Type 0 where
  pub found : Image
  pub long : short m ≡ false
  pub is : load_image bytes ≡ image found
  pub held : Held m' n found
  pub kept : ImageKept found
