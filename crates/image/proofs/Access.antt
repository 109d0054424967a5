-- Where a text and a chunk of an image lie in the work slices.
use mathlib.Core.Path.{◌≡◌, refl, sym, ap, ◌∙◌}
use mathlib.Core.List.{List, [], ◌∷◌, ◌++◌, map, append_assoc, append-nil}
use Prim.Native.Nat.{ℕ, zero, suc, ◌+◌, ◌*◌, ◌-◌, ◌≤◌, ◌<◌}
use native.Mathlib.Nat.{not-suc-le-zero}
use native.Mathlib.Omega.{arith}
use lib.ListN.{length, get_or, take, drop, length-append}
use lib.Seq.{drop_at, take_at, drop-cons}
use Rattle.definition.specs.Image.{Constant, Chunk, no_chunk}
use Rattle.definition.specs.Lines.{constants_of}
use Rattle.image.specs.Answer.{flat, code_in, ends_from, rows_from}
use Rattle.image.specs.Held.{cut}

abbrev pub at : List Chunk → ℕ → Chunk
at cs c = get_or cs c no_chunk

-- a part behind a list, and one in front of another
cut_here : (p q r : List ℕ) (from to : ℕ) → length p ≡ from → length p + length q ≡ to → cut from to (p ++ (q ++ r)) ≡ q
cut_here p q r from to e f =
    let z : length q ≡ to - from = omega arith in
    rw (drop_at p (q ++ r) from e) (take_at q r (to - from) z)

-- texts
pub text_here :
    (n : ℕ) (pre : List ℕ) (ts : List (List ℕ)) (rest : List ℕ) (i : ℕ) → length pre ≡ n → i < length ts
    → cut (get_or (n ∷ ends_from n ts) i 0) (get_or (ends_from n ts) i 0) (pre ++ (flat ts ++ rest)) ≡ get_or ts i []
text_here n pre [] rest i e h = absurd (not-suc-le-zero h)
text_here n pre (x ∷ xs) rest zero e h = rw append_assoc (cut_here pre x (flat xs ++ rest) n (n + length x) e (omega arith))
text_here n pre (x ∷ xs) rest (suc i) e h =
    ap (cut (get_or ((n + length x) ∷ ends_from (n + length x) xs) i 0) (get_or (ends_from (n + length x) xs) i 0)) (rw append_assoc (sym (append_assoc pre x (flat xs ++ rest))))
    ∙ text_here (n + length x) (pre ++ x) xs rest i (rw length-append (omega arith)) (omega arith)

-- the table
row_at :
    (nc nb : ℕ) (cs : List Chunk) (rest : List ℕ) (c j : ℕ) → c ≤ length cs
    → get_or (rows_from nc nb cs ++ rest) (4 * c + j) 0
    ≡ get_or (rows_from (nc + length (constants_of (take c cs))) (nb + length (code_in (take c cs))) (drop c cs) ++ rest) j 0
row_at nc nb cs rest zero j h =
    let z : 4 * 0 + j ≡ j = omega arith in
    let x : nc ≡ nc + 0 = omega arith in
    let y : nb ≡ nb + 0 = omega arith in
    ap (λ (i : ℕ). get_or (rows_from nc nb cs ++ rest) i 0) z
    ∙ ap (λ (n : ℕ). get_or (rows_from n nb cs ++ rest) j 0) x
    ∙ ap (λ (n : ℕ). get_or (rows_from (nc + 0) n cs ++ rest) j 0) y
row_at nc nb [] rest (suc c) j h = absurd (not-suc-le-zero h)
row_at nc nb (d ∷ cs) rest (suc c) j h =
    let z : 4 * suc c + j ≡ suc (suc (suc (suc (4 * c + j)))) = omega arith in
    let x : nc + length d.constants + length (constants_of (take c cs)) ≡ nc + length (d.constants ++ constants_of (take c cs)) = rw length-append (omega arith) in
    let y : nb + length d.code + length (code_in (take c cs)) ≡ nb + length (d.code ++ code_in (take c cs)) = rw length-append (omega arith) in
    ap (λ (i : ℕ). get_or (rows_from nc nb (d ∷ cs) ++ rest) i 0) z
    ∙ row_at (nc + length d.constants) (nb + length d.code) cs rest c j (omega arith)
    ∙ ap (λ (n : ℕ). get_or (rows_from n (nb + length d.code + length (code_in (take c cs))) (drop c cs) ++ rest) j 0) x
    ∙ ap (λ (n : ℕ). get_or (rows_from (nc + length (d.constants ++ constants_of (take c cs))) n (drop c cs) ++ rest) j 0) y

-- what stands before a chunk, its own, and what stands behind it
constants_split : (cs : List Chunk) (c : ℕ) → c < length cs → constants_of cs ≡ constants_of (take c cs) ++ ((at cs c).constants ++ constants_of (drop (suc c) cs))
constants_split [] c h = absurd (not-suc-le-zero h)
constants_split (d ∷ cs) zero h = refl
constants_split (d ∷ cs) (suc c) h = ap (d.constants ++◌) (constants_split cs c (omega arith)) ∙ sym (append_assoc d.constants _ _)

code_split : (cs : List Chunk) (c : ℕ) → c < length cs → code_in cs ≡ code_in (take c cs) ++ ((at cs c).code ++ code_in (drop (suc c) cs))
code_split [] c h = absurd (not-suc-le-zero h)
code_split (d ∷ cs) zero h = refl
code_split (d ∷ cs) (suc c) h = ap (d.code ++◌) (code_split cs c (omega arith)) ∙ sym (append_assoc d.code _ _)

pub constants_next : (cs : List Chunk) (c : ℕ) → c < length cs → length (constants_of (take (suc c) cs)) ≡ length (constants_of (take c cs)) + length (at cs c).constants
constants_next [] c h = absurd (not-suc-le-zero h)
constants_next (d ∷ cs) zero h = rw append-nil (omega arith)
constants_next (d ∷ cs) (suc c) h = rw (length-append, length-append d.constants (constants_of (take c cs)), constants_next cs c (omega arith)) (omega arith)

pub code_next : (cs : List Chunk) (c : ℕ) → c < length cs → length (code_in (take (suc c) cs)) ≡ length (code_in (take c cs)) + length (at cs c).code
code_next [] c h = absurd (not-suc-le-zero h)
code_next (d ∷ cs) zero h = rw append-nil (omega arith)
code_next (d ∷ cs) (suc c) h = rw (length-append, length-append d.code (code_in (take c cs)), code_next cs c (omega arith)) (omega arith)

pub constants_cut : (cs : List Chunk) (n : ℕ) → length (constants_of cs) ≡ length (constants_of (take n cs)) + length (constants_of (drop n cs))
constants_cut cs zero = omega arith
constants_cut [] (suc n) = omega arith
constants_cut (d ∷ cs) (suc n) = rw (length-append d.constants (constants_of cs), length-append d.constants (constants_of (take n cs)), constants_cut cs n) (omega arith)

pub code_cut : (cs : List Chunk) (n : ℕ) → length (code_in cs) ≡ length (code_in (take n cs)) + length (code_in (drop n cs))
code_cut cs zero = omega arith
code_cut [] (suc n) = omega arith
code_cut (d ∷ cs) (suc n) = rw (length-append d.code (code_in cs), length-append d.code (code_in (take n cs)), code_cut cs n) (omega arith)

third : (nc nb a b : ℕ) (ds : List Chunk) → (nc + length (constants_of ds) ≡ a) → get_or (rows_from nc nb ds ++ (0 ∷ 0 ∷ a ∷ b ∷ [])) 2 0 ≡ nc
third nc nb a b [] e = omega arith
third nc nb a b (d ∷ ds) e = refl

fourth : (nc nb a b : ℕ) (ds : List Chunk) → (nb + length (code_in ds) ≡ b) → get_or (rows_from nc nb ds ++ (0 ∷ 0 ∷ a ∷ b ∷ [])) 3 0 ≡ nb
fourth nc nb a b [] e = omega arith
fourth nc nb a b (d ∷ ds) e = refl

module _ (ts : List (List ℕ)) (cs : List Chunk) where
  abbrev pub table : List ℕ
  table = rows_from 0 (length (flat ts)) cs ++ (0 ∷ 0 ∷ length (constants_of cs) ∷ length (flat ts ++ code_in cs) ∷ [])

  -- before chunk c, up to the number of chunks, stand as many constants and bytes as the chunks below it have
  pub constants_before : (c : ℕ) → c ≤ length cs → get_or table (4 * c + 2) 0 ≡ length (constants_of (take c cs))
  constants_before c h =
      row_at 0 (length (flat ts)) cs (0 ∷ 0 ∷ length (constants_of cs) ∷ length (flat ts ++ code_in cs) ∷ []) c 2 h
      ∙ third (0 + length (constants_of (take c cs))) (length (flat ts) + length (code_in (take c cs))) (length (constants_of cs)) (length (flat ts ++
      code_in cs)) (drop c cs) (omega (arith, constants_cut cs c))
      ∙ plus (length (constants_of (take c cs)))
    where
      plus : (n : ℕ) → 0 + n ≡ n
      plus n = omega arith

  pub bytes_before : (c : ℕ) → c ≤ length cs → get_or table (4 * c + 3) 0 ≡ length (flat ts) + length (code_in (take c cs))
  bytes_before c h =
      row_at 0 (length (flat ts)) cs (0 ∷ 0 ∷ length (constants_of cs) ∷ length (flat ts ++ code_in cs) ∷ []) c 3 h
      ∙ fourth (0 + length (constants_of (take c cs))) (length (flat ts) + length (code_in (take c cs))) (length (constants_of cs)) (length (flat ts ++
      code_in cs)) (drop c cs) (omega (arith, code_cut cs c, length-append (flat ts) (code_in cs)))

  pub arity_here : (c : ℕ) → c < length cs → get_or table (4 * c) 0 ≡ (at cs c).arity
  arity_here c h =
      let z : 4 * c ≡ 4 * c + 0 = omega arith in
      let g : c ≤ length cs = omega arith in
      ap (λ (i : ℕ). get_or table i 0) z
      ∙ row_at 0 (length (flat ts)) cs (0 ∷ 0 ∷ length (constants_of cs) ∷ length (flat ts ++ code_in cs) ∷ []) c 0 g
      ∙ rw (drop-cons cs c no_chunk h)

  pub name_here : (c : ℕ) → c < length cs → get_or table (4 * c + 1) 0 ≡ (at cs c).name
  name_here c h =
      let g : c ≤ length cs = omega arith in
      row_at 0 (length (flat ts)) cs (0 ∷ 0 ∷ length (constants_of cs) ∷ length (flat ts ++ code_in cs) ∷ []) c 1 g
      ∙ rw (drop-cons cs c no_chunk h)

pub map_append : (f : Constant → ℕ) (xs ys : List Constant) → map f (xs ++ ys) ≡ map f xs ++ map f ys
map_append f [] ys = refl
map_append f (x ∷ xs) ys = ap (f x ∷◌) (map_append f xs ys)

pub length_map : (f : Constant → ℕ) (xs : List Constant) → length (map f xs) ≡ length xs
length_map f [] = refl
length_map f (x ∷ xs) = ap suc (length_map f xs)

-- the constants and the code of chunk c
module _ (ts : List (List ℕ)) (cs : List Chunk) (c : ℕ) (h : c < length cs) where
  le : c ≤ length cs
  le = omega arith

  six : 4 * c + 6 ≡ 4 * suc c + 2
  six = omega arith

  seven : 4 * c + 7 ≡ 4 * suc c + 3
  seven = omega arith

  pub constants_here : (f : Constant → ℕ) → cut (get_or (table ts cs) (4 * c + 2) 0) (get_or (table ts cs) (4 * c + 6) 0) (map f (constants_of cs)) ≡ map f (at cs c).constants
  constants_here f =
      rw (
        six,
        constants_before ts cs c le,
        constants_before ts cs (suc c) h,
        constants_next cs c h,
        constants_split cs c h,
        map_append,
        map_append f
            (at cs c).constants (constants_of (drop (suc c) cs)),
      )
      (cut_here (map f (constants_of (take c cs))) (map f (at cs c).constants) (map f (constants_of (drop (suc c) cs))) _ _ (length_map f (constants_of
      (take c cs))) (rw (length_map f (constants_of (take c cs)), length_map f (at cs c).constants)))

  pub code_here : cut (get_or (table ts cs) (4 * c + 3) 0) (get_or (table ts cs) (4 * c + 7) 0) (flat ts ++ code_in cs) ≡ (at cs c).code
  code_here =
      rw (seven, bytes_before ts cs c le, bytes_before ts cs (suc c) h, code_next cs c h, code_split cs c h)
      (ap (cut (length (flat ts) + length (code_in (take c cs))) (length (flat ts) + (length (code_in (take c cs)) + length (at cs c).code))) (sym
      (append_assoc (flat ts) (code_in (take c cs)) ((at cs c).code ++ code_in (drop (suc c) cs))))
      ∙ cut_here (flat ts ++ code_in (take c cs)) (at cs c).code (code_in (drop (suc c) cs)) (length (flat ts) + length (code_in (take c cs))) (length
      (flat ts) + (length (code_in (take c cs)) + length (at cs c).code)) (length-append (flat ts) (code_in (take c cs))) (rw length-append (omega
      arith)))

-- texts: where they end
pub ends_rise : (n : ℕ) (ts : List (List ℕ)) (i : ℕ) → i < length ts → get_or (n ∷ ends_from n ts) i 0 ≤ get_or (ends_from n ts) i 0
ends_rise n [] i h = absurd (not-suc-le-zero h)
ends_rise n (x ∷ xs) zero h = omega arith
ends_rise n (x ∷ xs) (suc i) h = ends_rise (n + length x) xs i (omega arith)

pub ends_within : (n : ℕ) (ts : List (List ℕ)) (i : ℕ) → i < length ts → get_or (ends_from n ts) i 0 ≤ n + length (flat ts)
ends_within n [] i h = absurd (not-suc-le-zero h)
ends_within n (x ∷ xs) zero h = rw length-append (omega arith)
ends_within n (x ∷ xs) (suc i) h = let z = ends_within (n + length x) xs i (omega arith) in rw length-append (omega arith)

pub ends_length : (n : ℕ) (ts : List (List ℕ)) → length (ends_from n ts) ≡ length ts
ends_length n [] = refl
ends_length n (x ∷ xs) = ap suc (ends_length (n + length x) xs)
