-- What `load` answers, and what it leaves in the work slices.
use Rattle.std.specs.Prelude.{◌≡◌, Bool, true, false, cond, ◌||◌, List, [], ◌∷◌, ◌++◌, map, ℕ, ◌+◌, ◌*◌, ◌≤◌, ◌<◌, length, take, drop, replicate, ltb, Result, Ok, Err}
use Rattle.definition.specs.Image.{Constant, Chunk, Image}
use Rattle.definition.specs.Lines.{Load, image, refused, load_image, constants_of}
pub use Rattle.image_records.specs.Records.{number_of}
use Rattle.image.specs.declared.Counts.{Counts}
use Rattle.image_store.specs.declared.Refusal.{Refusal}

-- the five work slices, or the parts of them that an image fills. `bytes`: all texts, one after another, and after them the code of all
-- chunks; `ends`: where each text ends in `bytes`; `kinds`, `payloads`: all constants, chunk after chunk; `table`: a row of four numbers for
-- each chunk, its arity, its name's text number, and how many constants and how many bytes stand before its own; and one row more, 0, 0 and
-- how many constants and bytes there are, so that row c + 1 says where chunk c ends
pub record Slices : Type 0 where
  pub bytes : List ℕ
  pub ends : List ℕ
  pub kinds : List ℕ
  pub payloads : List ℕ
  pub table : List ℕ

abbrev pub slices : List ℕ → List ℕ → List ℕ → List ℕ → List ℕ → Slices
slices b e k p t = record { bytes = b; ends = e; kinds = k; payloads = p; table = t }

-- how an image lies in them
abbrev pub flat : List (List ℕ) → List ℕ
flat [] = []
flat (x ∷ xs) = x ++ flat xs

abbrev pub code_in : List Chunk → List ℕ
code_in [] = []
code_in (c ∷ cs) = c.code ++ code_in cs

abbrev pub bytes_in : Image → List ℕ
bytes_in im = flat im.texts ++ code_in im.chunks

abbrev pub ends_from : ℕ → List (List ℕ) → List ℕ
ends_from n [] = []
ends_from n (x ∷ xs) = (n + length x) ∷ ends_from (n + length x) xs

abbrev pub kind_of : Constant → ℕ
kind_of c = c.kind

abbrev pub payload_of : Constant → ℕ
payload_of c = c.payload

-- the rows, where nc constants and nb bytes stand before them
abbrev pub rows_from : ℕ → ℕ → List Chunk → List ℕ
rows_from nc nb [] = []
rows_from nc nb (c ∷ cs) = c.arity ∷ c.name ∷ nc ∷ nb ∷ rows_from (nc + length c.constants) (nb + length c.code) cs

abbrev pub last_row : Image → List ℕ
last_row im = 0 ∷ 0 ∷ length (constants_of im.chunks) ∷ length (bytes_in im) ∷ []

unfoldable pub slices_of : Image → Slices
slices_of im =
    record {
      bytes = bytes_in im;
      ends = ends_from 0 im.texts;
      kinds = map kind_of (constants_of im.chunks);
      payloads = map payload_of (constants_of im.chunks);
      table = rows_from 0 (length (flat im.texts)) im.chunks ++ last_row im;
    }

unfoldable pub counts_of : Image → Counts
counts_of im =
    record {
      texts = length im.texts;
      chunks = length im.chunks;
      constants = length (constants_of im.chunks);
      bytes = length (bytes_in im);
    }

-- what work slices hold as far as the counts say
abbrev pub filled : Counts → Slices → Slices
filled n m =
    record {
      bytes = take n.bytes m.bytes;
      ends = take n.texts m.ends;
      kinds = take n.constants m.kinds;
      payloads = take n.constants m.payloads;
      table = take (4 * (n.chunks + 1)) m.table;
    }

-- what `load` answers: how much of the slices an image fills, or why it is refused, with the line
abbrev pub LoadAnswer : Type 0
LoadAnswer = Result Counts Refusal

-- an answer with the work slices as they are left: the counts and the filled parts, or document 01's number and line
pub data Outcome : Type 0 where
  holds : Counts → Slices → Outcome
  refuses : ℕ → ℕ → Outcome

abbrev pub outcome_of : LoadAnswer → Slices → Outcome
outcome_of (Ok n) m = holds n (filled n m)
outcome_of (Err f) m = refuses (number_of f.reason) f.line

abbrev pub encoded : Load → Outcome
encoded (image im) = holds (counts_of im) (slices_of im)
encoded (refused n k) = refuses n k

-- "9 exactly if a work slice is below its length named in docs/"
abbrev pub short : Slices → Bool
short m =
    ltb (length m.bytes) 32768 || ltb (length m.ends) 256 || ltb (length m.kinds) 13107 || ltb (length m.payloads) 13107
    || ltb (length m.table) 260

-- what `load` of these bytes has to give in slices of these lengths
unfoldable pub load_in : Slices → List ℕ → Outcome
load_in m bytes = cond (short m) (refuses 9 0) (encoded (load_image bytes))

-- from these places on the slices are as they were
pub record Behind (b e c t : ℕ) (m m' : Slices) : Type 0 where
  pub same_bytes : drop b m'.bytes ≡ drop b m.bytes
  pub same_ends : drop e m'.ends ≡ drop e m.ends
  pub same_kinds : drop c m'.kinds ≡ drop c m.kinds
  pub same_payloads : drop c m'.payloads ≡ drop c m.payloads
  pub same_table : drop t m'.table ≡ drop t m.table

-- a slice's named length is all of it that is ever written
abbrev pub BehindMost : Slices → Slices → Type 0
BehindMost m m' = Behind 32768 256 13107 260 m m'

-- Behind a loaded image `ends`, `kinds`, `payloads` and `table` are as they were. Of `bytes` nothing is said between the image's last byte and
-- the first 32,768: fields of lines that are neither text nor code were read there. After a refusal all is as it was behind the named lengths.
abbrev pub Left : LoadAnswer → Slices → Slices → Type 0
Left (Ok n) m m' = Behind 32768 n.texts n.constants (4 * (n.chunks + 1)) m m'
Left (Err f) m m' = BehindMost m m'

-- a slice that is zero up to this length, and as it was behind it
unfoldable pub zero_to : ℕ → List ℕ → List ℕ
zero_to n l = replicate n 0 ++ drop n l

-- "All work memory is zero after every operation": each slice zero up to its named length, which is all of it that is ever written
abbrev pub blanked : Slices → Slices
blanked m =
    record {
      bytes = zero_to 32768 m.bytes;
      ends = zero_to 256 m.ends;
      kinds = zero_to 13107 m.kinds;
      payloads = zero_to 13107 m.payloads;
      table = zero_to 260 m.table;
    }

-- of a refused image nothing stays
abbrev pub Blanked : LoadAnswer → Slices → Slices → Type 0
Blanked (Ok n) m m' = Unit {0}
Blanked (Err f) m m' = m' ≡ blanked m

-- m before and m' after. A short slice, which is 9, and an image that is too long, which is 1, leave all slices as they were; any other refusal,
-- 2 to 7, leaves them `blanked`. So after a refusal every element of all five is settled.
pub record Loads (bytes : List ℕ) (m : Slices) (r : LoadAnswer) (m' : Slices) : Type 0 where
  pub answer : outcome_of r m' ≡ load_in m bytes
  pub left : Left r m m'
  pub short_same : short m ≡ true → m' ≡ m
  pub long_same : 65536 < length bytes → m' ≡ m
  pub refused_blank : short m ≡ false → length bytes ≤ 65536 → Blanked r m m'
