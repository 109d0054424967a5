-- Values nested two arrays at a time.
use mathlib.Core.Path.{◌≡◌, refl, ap, sym, ◌∙◌, subst}
use mathlib.Core.Logic.{◌↔◌, ◌⊎◌, inl, inr, ⊎_elim}
use mathlib.Core.Bool.{Bool, true, false, cond}
use mathlib.Core.List.{List, [], ◌∷◌, ◌++◌}
use Prim.Native.Nat.{ℕ, zero, suc, ◌+◌, ◌*◌, ◌<◌, ◌≤◌, max}
use native.Mathlib.Numerals.{add-one}
use native.Mathlib.Omega.{arith}
use borrow.Author.Tests.{leb-false}
use lib.Dec.{leb, ltb}
use lib.ListN.{length, get_or, take, drop, set, length-append}
use Rattle.clearing.specs.Zero.{AllZero}
use Rattle.numbers.specs.declared.Number.{Number}
use Rattle.definition.specs.Image.{chunk_at, text_at}
use Rattle.definition.specs.Value.{Value, node, none, more, num, arr, nest, nest_over, nests}
use Rattle.definition.specs.Trees.{trees}
use Rattle.definition.specs.Equality.{Equal, equal}
use Rattle.definition.specs.Coding.{coded}
use Rattle.definition.proofs.Equality.{equal_decided}
use Rattle.values.specs.declared.VmValue.{VmValue}
use Rattle.values.specs.declared.VmValue.TheVariants.{Null, Num, Arr}
use Rattle.values.specs.Words.{pairs, Fit}
use Rattle.values.specs.Cells.{tree_over, cells_of, trees_of, tree_of, Placed, Held}
use Rattle.values.specs.Flat.{block_of, deepest, block_behind}
use Rattle.std.specs.Prelude.{Option, Result, Ok, Err, cond}
use Rattle.values.specs.declared.BuildFault.{BuildFault}
use Rattle.values.specs.declared.BuildFault.TheVariants.{NoRoom, TooDeep}
use Rattle.values.specs.Building.{built_of, Builds, BuiltOn}
use Rattle.value_equality.specs.Classes.{class_of, ClassTables}
use Rattle.value_equality.specs.Equality.{EqualAsks, EqualGives}
use Rattle.value_coding.specs.Coding.{code_of, coded_answer, coded_out, CodeGives}
use Rattle.values.proofs.InCells.{cells_length}
use Rattle.value_equality.proofs.Memos.{memo_none, down_none}
use Rattle.values.proofs.FlatTrees.{none_formed}
use Rattle.shared_values.specs.Nested.{nested_tree, last_tree, no_image, NestedAsks, Stays, Grows, NestedAt, NestedGives, CodedGives, done}

-- two values stored in a slice of four zeros
pub pair_is : (p q : List ℕ) (x y : VmValue) → pairs p ≡ set (pairs (0 ∷ 0 ∷ 0 ∷ 0 ∷ [])) 0 x → pairs q ≡ set (pairs p) 1 y → take 2 (drop 0 (pairs q)) ≡ x ∷ y ∷ []
unfolding pairs
pair_is p q x y ep eq = ap (λ (l : List VmValue). take 2 l) (eq ∙ ap (λ (l : List VmValue). set l 1 y) ep)

pub paired : (p q : List ℕ) (x y : VmValue) (n : ℕ) (ws ws' : List ℕ) (r : Result VmValue BuildFault) → pairs p ≡ set (pairs (0 ∷ 0 ∷ 0 ∷ 0 ∷ [])) 0 x → pairs q ≡ set (pairs p) 1 y
    → Builds arr (take 2 (drop 0 (pairs q))) n ws ws' r → Builds arr (x ∷ y ∷ []) n ws ws' r
paired p q x y n ws ws' r ep eq b = subst (λ (l : List VmValue). Builds arr l n ws ws' r) (pair_is p q x y ep eq) b

-- ---- one array built
pub record Stepped (n : ℕ) (ws ws' : List ℕ) (a b v : VmValue) : Type 0 where
  pub asks : NestedAsks ws' (n + 2)
  pub placed : Placed (cells_of (n + 2) ws') (n + 2) v
  pub tree : tree_of (cells_of (n + 2) ws') v ≡ node arr (more (tree_of (cells_of n ws) a) (more (tree_of (cells_of n ws) b) none))
  pub fit : Fit v
  pub older : (u : VmValue) → Placed (cells_of n ws) n u → Stays ws ws' n (n + 2) u

module _ (n : ℕ) (ws ws' : List ℕ) (a b v : VmValue) (asks : NestedAsks ws n) (pa : Placed (cells_of n ws) n a) (pb : Placed (cells_of n ws) n b) (len : length ws' ≡ length ws)
    (built : Builds arr (a ∷ b ∷ []) n ws ws' (Ok v)) where
  both_placed : (j : ℕ) → j < 2 → Placed (cells_of n ws) n (get_or (a ∷ b ∷ []) j Null)
  both_placed zero l = pa
  both_placed (suc zero) l = pb
  both_placed (suc (suc j)) l = let z : ⊥ = omega arith in absurd z

  made : BuiltOn (cells_of n ws) (cells_of (n + 2) ws') arr (a ∷ b ∷ []) v
  made = built.kept asks.formed both_placed

  few : n + 2 ≤ 4096
  few = built.room

  now_length : length (cells_of (n + 2) ws') ≡ n + 2
  now_length = cells_length (n + 2) ws' (omega (arith, few, asks.words))

  then_length : length (cells_of n ws) ≡ n
  then_length = cells_length n ws (omega (arith, asks.few, asks.words))

  stepped : Stepped n ws ws' a b v
  stepped =
      record {
        asks = record { words = omega (arith, asks.words); few = few; formed = made.formed };
        placed = subst (λ (k : ℕ). Placed (cells_of (n + 2) ws') k v) now_length made.placed;
        tree = made.tree;
        fit = built.fit;
        older = λ u p.
            let o = made.older u (subst (λ (k : ℕ). Placed (cells_of n ws) k u) (sym then_length) p) in
            record {
              placed = record { below = omega (arith, p.below); nests = p.nests ∙ ap nest (sym o) };
              tree = o;
            };
      }

stays_then : {ws₀ ws₁ ws₂ : List ℕ} {n₀ n₁ n₂ : ℕ} {u : VmValue} → Stays ws₀ ws₁ n₀ n₁ u → Stays ws₁ ws₂ n₁ n₂ u → Stays ws₀ ws₂ n₀ n₂ u
stays_then s t = record { placed = t.placed; tree = t.tree ∙ s.tree }

-- ---- the turns of the loop: y has the last leaf, and x, all of whose leaves are the same, is the first part of the next array
pub record Twins (leaf last : Number) (depth n : ℕ) (ws ws' : List ℕ) (x y : VmValue) (n' : ℕ) : Type 0 where
  pub path : NestedAt leaf last depth n ws ws' y n'
  pub placed : Placed (cells_of n' ws') n' x
  pub tree : tree_of (cells_of n' ws') x ≡ nested_tree leaf depth
  pub fit : Fit x

leaves_at : (leaf last : Number) (n : ℕ) (ws : List ℕ) → NestedAsks ws n → Twins leaf last 0 n ws ws (Num leaf) (Num last) n
unfolding tree_over nest nest_over nested_tree last_tree
leaves_at leaf last n ws a =
    record {
      path = record {
        asks = a;
        placed = record { below = omega arith; nests = refl };
        tree = refl;
        fit = tt;
        older = λ u p. record { placed = p; tree = refl };
        count = omega arith;
      };
      placed = record { below = omega arith; nests = refl };
      tree = refl;
      fit = tt;
    }

pub first_twins : (leaf last l m : Number) (n : ℕ) (ws : List ℕ) → NestedAsks ws n → Num leaf ≡ Num l → Num last ≡ Num m → Twins l m 0 n ws ws (Num leaf) (Num last) n
first_twins leaf last l m n ws a e f =
    let p : leaf ≡ l = cc in
    let q : last ≡ m = cc in
    subst (λ (k : Number). Twins k m 0 n ws ws (Num leaf) (Num last) n) p (subst (λ (k : Number). Twins leaf k 0 n ws ws (Num leaf) (Num last) n) q (leaves_at leaf last n ws a))

module _ (leaf last : Number) (i n₀ n : ℕ) (ws₀ ws ws' : List ℕ) (x y v w : VmValue) (a : Twins leaf last i n₀ ws₀ ws x y n) (len : length ws' ≡
    length ws) (g : Grows x y n ws ws' v w) where
  first : Stepped n ws g.between x y v
  first = stepped n ws g.between x y v a.path.asks a.placed a.path.placed g.between_length g.path

  x_stays : Stays ws g.between n (n + 2) x
  x_stays = first.older x a.placed

  second : Stepped (n + 2) g.between ws' x x w
  second = stepped (n + 2) g.between ws' x x w first.asks x_stays.placed x_stays.placed (len ∙ sym g.between_length) g.shared

  v_stays : Stays g.between ws' (n + 2) (n + 2 + 2) v
  v_stays = second.older v first.placed

  grown : Twins leaf last (suc i) n₀ ws₀ ws' w v (n + 2 + 2)
  unfolding nested_tree last_tree
  grown =
      record {
        path = record {
          asks = second.asks;
          placed = v_stays.placed;
          tree = v_stays.tree ∙ first.tree ∙ ap (λ (t : Value). node arr (more t (more (tree_of (cells_of n ws) y) none))) a.tree ∙ ap (λ (t :
              Value). node arr (more (nested_tree leaf i) (more t none))) a.path.tree;
          fit = first.fit;
          older = λ u p.
              let s = a.path.older u p in
              let t = first.older u s.placed in
              stays_then s (stays_then t (second.older u t.placed));
          count = omega (arith, a.path.count);
        };
        placed = second.placed;
        tree = second.tree ∙ ap (λ (t : Value). node arr (more t (more t none))) (x_stays.tree ∙ a.tree);
        fit = second.fit;
      }

  pub next_twins : Twins leaf last (i + 1) n₀ ws₀ ws' w v (n + 4)
  next_twins =
      let four : n + 2 + 2 ≡ n + 4 = omega arith in
      subst (λ (k : ℕ). Twins leaf last (i + 1) n₀ ws₀ ws' w v k) four (subst (λ (d : ℕ). Twins leaf last d n₀ ws₀ ws' w v (n + 2 + 2)) (sym (add-one i)) grown)

-- ---- what was not built: the array of x and y passes a most
picked_room : (p q : Bool) (v : VmValue) → (Err NoRoom) ≡ cond p (cond q (Ok v) (Err TooDeep)) (Err NoRoom) → p ≡ false
picked_room true true v e = let z : ◌≡◌ {A = ℕ} 0 1 = cc in absurd (omega arith)
picked_room true false v e = let z : ◌≡◌ {A = ℕ} 0 1 = cc in absurd (omega arith)
picked_room false q v e = refl

picked_deep : (p q : Bool) (v : VmValue) → (Err TooDeep) ≡ cond p (cond q (Ok v) (Err TooDeep)) (Err NoRoom) → q ≡ false
picked_deep true true v e = let z : ◌≡◌ {A = ℕ} 0 1 = cc in absurd (omega arith)
picked_deep true false v e = refl
picked_deep false q v e = let z : ◌≡◌ {A = ℕ} 0 1 = cc in absurd (omega arith)

module _ (x y : VmValue) (n : ℕ) (ws ws' : List ℕ) (r : Result VmValue BuildFault) (b : Builds arr (x ∷ y ∷ []) n ws ws' r) where
  pub no_room : 2 * n ≤ length ws → r ≡ (Err NoRoom) → 4096 < n + 2
  unfolding built_of
  no_room h q =
      let f =
      picked_room
      (leb (length (cells_of n ws ++ (x ∷ y ∷ []))) 4096)
      (leb (suc (deepest (x ∷ y ∷ []))) 64)
      (Arr (block_behind (cells_of n ws) (x ∷ y ∷ [])))
      (sym q ∙ b.answer)
      in
      omega (arith, leb-false (length (cells_of n ws ++ (x ∷ y ∷ []))) 4096 f, length-append (cells_of n ws) (x ∷ y ∷ []), cells_length n ws h)

  pub too_deep : r ≡ (Err TooDeep) → 64 ≤ deepest (x ∷ y ∷ [])
  unfolding built_of
  too_deep q =
      let f =
      picked_deep
      (leb (length (cells_of n ws ++ (x ∷ y ∷ []))) 4096)
      (leb (suc (deepest (x ∷ y ∷ []))) 64)
      (Arr (block_behind (cells_of n ws) (x ∷ y ∷ [])))
      (sym q ∙ b.answer)
      in
      omega (arith, leb-false (suc (deepest (x ∷ y ∷ []))) 64 f)

pub not_built : (x y : VmValue) (n : ℕ) (ws ws' : List ℕ) (e : BuildFault) → Builds arr (x ∷ y ∷ []) n ws ws' (Err e) → 2 * n ≤ length ws → (4096 < n + 2) ⊎ (64 ≤ deepest (x ∷ y ∷ []))
not_built x y n ws ws' NoRoom b h = inl (no_room x y n ws ws' (Err NoRoom) b h refl)
not_built x y n ws ws' TooDeep b h = inr (too_deep x y n ws ws' (Err TooDeep) b refl)

pub first_fails : (x y : VmValue) (n : ℕ) (ws ws' : List ℕ) (e : BuildFault) → Builds arr (x ∷ y ∷ []) n ws ws' (Err e) → 8192 ≤ length ws → n ≤ 4096
    → (4096 < n + 4) ⊎ (64 ≤ deepest (x ∷ y ∷ []))
first_fails x y n ws ws' e b h k = ⊎_elim (λ (a : 4096 < n + 2). inl (omega arith)) inr (not_built x y n ws ws' e b (omega arith))

-- [x, x] after [x, y]
pub second_fails : (x y v : VmValue) (n : ℕ) (ws mid ws' : List ℕ) (e : BuildFault) → Builds arr (x ∷ y ∷ []) n ws mid (Ok v) → Builds arr (x ∷ x ∷ []) (n + 2) mid ws' (Err e)
    → 8192 ≤ length ws → length mid ≡ length ws → (4096 < n + 4) ⊎ (64 ≤ deepest (x ∷ y ∷ []))
second_fails x y v n ws mid ws' e b b' h l =
    let room = b.room in
    ⊎_elim (λ (a : 4096 < n + 2 + 2). inl (omega arith)) (λ (a : 64 ≤ deepest (x ∷ x ∷ [])). inr (omega arith)) (not_built x x (n + 2) mid ws' e b' (omega arith))

-- the nesting of the trees
nest_pair : (a b : Value) → nest (node arr (more a (more b none))) ≡ suc (max (nest a) (max (nest b) 0))
unfolding nest nest_over nests
nest_pair a b = refl

nest_leaf : (n : Number) → nest (node (num n) none) ≡ 0
unfolding nest nest_over
nest_leaf n = refl

nest_nested : (n : Number) (d : ℕ) → nest (nested_tree n d) ≡ d
unfolding nested_tree
nest_nested n zero = nest_leaf n
nest_nested n (suc d) = omega (arith, nest_pair (nested_tree n d) (nested_tree n d), nest_nested n d)

nest_last : (n m : Number) (d : ℕ) → nest (last_tree n m d) ≡ d
unfolding last_tree
nest_last n m zero = nest_leaf m
nest_last n m (suc d) = omega (arith, nest_pair (nested_tree n d) (last_tree n m d), nest_nested n d, nest_last n m d)

-- the next array is not built only where the whole tree would pass a most
pub turn_fails :
    (leaf last : Number) (i n₀ n depth : ℕ) (ws₀ ws : List ℕ) (x y : VmValue) → Twins leaf last i n₀ ws₀ ws x y n → i < depth
    → (4096 < n + 4) ⊎ (64 ≤ deepest (x ∷ y ∷ [])) → (4096 < n₀ + 4 * depth) ⊎ (64 < depth)
turn_fails leaf last i n₀ n depth ws₀ ws x y t h k =
    let deep : (block_of x).nest ≡ i = t.placed.nests ∙ ap nest t.tree ∙ nest_nested leaf i in
    let deep' : (block_of y).nest ≡ i = t.path.placed.nests ∙ ap nest t.path.tree ∙ nest_last leaf last i in
    let few : n ≡ n₀ + 4 * i = t.path.count in
    ⊎_elim (λ (a : 4096 < n + 4). inl (omega arith)) (λ (a : 64 ≤ deepest (x ∷ y ∷ [])). inr (omega arith)) k

-- a tree that was built
pub nested_at : (leaf last : Number) (depth n : ℕ) (ws ws' : List ℕ) {r : Result (VmValue × ℕ) BuildFault} {v : VmValue} {n' : ℕ} → r ≡ Ok (v, n') → NestedGives leaf last depth n
    ws ws' r → NestedAt leaf last depth n ws ws' v n'
nested_at leaf last depth n ws ws' {r} {v} {n'} q k = let t : NestedGives leaf last depth n ws ws' (Ok (v, n')) = rw q at k in t

-- a tree behind at most as many cells as it takes is not built only where it nests over 64
pub too_nested : (leaf last : Number) (depth n : ℕ) (ws ws' : List ℕ) {r : Result (VmValue × ℕ) BuildFault} {f : BuildFault} → n ≤ 4 * depth → r ≡ Err f → NestedGives leaf last depth n ws ws' r → 64 < depth
too_nested leaf last depth n ws ws' {r} {f} h q k =
    let t : (4096 < n + 4 * depth) ⊎ (64 < depth) = rw q at k in ⊎_elim (λ (a : 4096 < n + 4 * depth). omega arith) (λ (a : 64 < depth). a) t

-- ---- comparing and coding
none_there : (a : ℕ) → class_of (0 ∷ []) a ≡ 0
unfolding class_of
none_there zero = refl
none_there (suc a) = either (ltb (suc a) 1)
  where
    either : (b : Bool) → ◌≡◌ {A = ℕ} (cond b 0 0) 0
    either true = refl
    either false = refl

no_tables : ClassTables no_image (0 ∷ []) (0 ∷ [])
unfolding text_at chunk_at
no_tables =
    record {
      texts = λ a b. ((λ e. refl), (λ e. none_there a ∙ sym (none_there b)));
      chunks = λ a b. ((λ e. (refl, refl)), (λ e. none_there a ∙ sym (none_there b)));
    }

pub empty_asks : (ws : List ℕ) → 8192 ≤ length ws → NestedAsks ws 0
empty_asks ws h = record { words = h; few = omega arith; formed = none_formed }

pub equal_asks : (left left' right right' : Number) (depth n m : ℕ) (ws₀ ws₁ ws : List ℕ) (memo : List ℕ) (a b : VmValue) → AllZero memo → 4096 ≤ length memo
    → NestedAt left left' depth 0 ws₀ ws₁ a n → NestedAt right right' depth n ws₁ ws b m → EqualAsks (0 ∷ []) (0 ∷ []) ws m memo a b
equal_asks left left' right right' depth n m ws₀ ws₁ ws memo a b z l x y =
    record {
      room = omega (arith, y.asks.few, y.asks.words);
      few = y.asks.few;
      formed = y.asks.formed;
      left = (y.older a x.placed).placed;
      right = y.placed;
      memo = omega (arith, y.asks.few);
      down = down_none memo z;
      told = λ im ct. memo_none im (trees_of (cells_of m ws)) memo z;
    }

pub equal_gives : (left left' right right' : Number) (depth n m : ℕ) (ws₀ ws₁ ws : List ℕ) (memo : List ℕ) (a b : VmValue) (r : Bool)
    → NestedAt left left' depth 0 ws₀ ws₁ a n → NestedAt right right' depth n ws₁ ws b m → EqualGives (0 ∷ []) (0 ∷ []) ws m memo a b r
    → (r ≡ true) ↔ Equal no_image (last_tree left left' depth) (last_tree right right' depth)
equal_gives left left' right right' depth n m ws₀ ws₁ ws memo a b r x y g =
    let ta : tree_of (cells_of m ws) a ≡ last_tree left left' depth = (y.older a x.placed).tree ∙ x.tree in
    let e : r ≡ equal trees no_image m (last_tree left left' depth) (last_tree right right' depth) =
    g.trees no_image no_tables ∙ ap (λ (t : Value). equal trees no_image m t (tree_of (cells_of m ws) b)) ta ∙ ap (λ (t : Value). equal trees no_image m
    (last_tree left left' depth) t) y.tree
    in
    ((λ q. (equal_decided no_image m _ _).0 (sym e ∙ q)), (λ q. e ∙ (equal_decided no_image m _ _).1 q))

pub code_asks : (leaf last : Number) (depth n : ℕ) (ws₀ ws : List ℕ) (v : VmValue) → NestedAt leaf last depth 0 ws₀ ws v n → Held ws n v
code_asks leaf last depth n ws₀ ws v x = record { room = omega (arith, x.asks.few, x.asks.words); formed = x.asks.formed; placed = x.placed }

pub code_gives : (leaf last : Number) (depth n : ℕ) (ws₀ ws : List ℕ) (v : VmValue) (words : ℕ) (l l' : List ℕ) (r : Option ℕ) → NestedAt leaf last depth
    0 ws₀ ws v n → CodeGives ws n v l l' r → CodedGives leaf last depth words l l' r
code_gives leaf last depth n ws₀ ws v words l l' r x g =
    let e : code_of ws n v ≡ coded trees n (last_tree leaf last depth) = ap (coded trees n) x.tree in
    done n (g.answer ∙ ap (λ (bs : List ℕ). coded_answer (leb (length bs) (length l)) bs) e) (g.out ∙ ap (λ (bs : List ℕ). coded_out (leb (length bs) (length l)) bs l) e)
