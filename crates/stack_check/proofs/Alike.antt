-- Chunks with the same code and constants of the same kinds are judged alike. Assumes nothing.
use mathlib.Core.Path.{◌≡◌, refl, sym, ◌∙◌, ap}
use mathlib.Core.Bool.{Bool}
use mathlib.Core.List.{List, [], ◌∷◌}
use mathlib.Core.Option.{Option, none, some}
use Prim.Native.Nat.{ℕ, zero, suc, ◌<◌}
use lib.ListN.{length, get_elem?}
use Rattle.definition.specs.Image.{Constant, Chunk}
use Rattle.definition.specs.Constants.{constant_at, function_at, str_at}
use Rattle.definition.specs.Table as table
use Rattle.definition.specs.Decode.{Instr, decode, fault, fault_of, fault_in, is_some, unless}
use Rattle.definition.specs.StackCheck as rules
use Rattle.definition.specs.CheckAnswer as answer
use Rattle.chunk.specs.Fault.{kinds_of}
use Rattle.chunk.proofs.Judging.{function_is, str_is}
use Rattle.stack_check.specs.Answer.{ChunkAnswer, ChunkIs}
use Rattle.std.proofs.Common.{Ok, Err}

pub record Alike (c e : Chunk) : Type 0 where
  pub code : c.code ≡ e.code
  pub kinds : kinds_of c.constants ≡ kinds_of e.constants

constant_is : (ks : List Constant) (n : ℕ) → is_some (constant_at ks n) ≡ is_some (get_elem? (kinds_of ks) n)
unfolding constant_at
constant_is [] n = refl
constant_is (k ∷ ks) zero = refl
constant_is (k ∷ ks) (suc n) = constant_is ks n

fault_of_lem : (s : table.Static) (ks js : List Constant) (p : ℕ) (i : Instr) → kinds_of ks ≡ kinds_of js → fault_of s ks p i ≡ fault_of s js p i
fault_of_lem table.nothing ks js p i e = refl
fault_of_lem table.any_constant ks js p i e = ap (λ (b : Bool). unless b 12) (constant_is ks i.a ∙ ap (λ (l : List ℕ). is_some (get_elem? l i.a)) e ∙ sym (constant_is js i.a))
fault_of_lem table.function_constant ks js p i e =
    let x : is_some (function_at ks i.a) ≡ is_some (function_at js i.a) = function_is ks i.a ∙ rw e (sym (function_is js i.a)) in
    ap (λ (b : Bool). unless b 12) x
fault_of_lem table.two_strings ks js p i e =
    let x : str_at ks i.b ≡ str_at js i.b = str_is ks i.b ∙ rw e (sym (str_is js i.b)) in
    let y : str_at ks i.d ≡ str_at js i.d = str_is ks i.d ∙ rw e (sym (str_is js i.d)) in
    rw (x, y)
fault_of_lem table.cast_target ks js p i e = refl
fault_of_lem table.back_target ks js p i e = refl

fault_in_lem : (x : Option Instr) (ks js : List Constant) (p : ℕ) → kinds_of ks ≡ kinds_of js → fault_in ks p x ≡ fault_in js p x
fault_in_lem none ks js p e = refl
fault_in_lem (some i) ks js p e = fault_of_lem (table.row i.op).static ks js p i e

module _ {c e : Chunk} (A : Alike c e) where
  fault_alike : (p : ℕ) → fault c p ≡ fault e p
  unfolding fault
  fault_alike p = ap (λ (l : List ℕ). fault_in c.constants p (decode l p)) A.code ∙ fault_in_lem (decode e.code p) c.constants e.constants p A.kinds

  length_alike : length c.code ≡ length e.code
  length_alike = ap length A.code

  sound_alike : {p : ℕ} {i : Instr} → rules.Sound c p i → rules.Sound e p i
  sound_alike {p} S = record { before = rw (← length_alike) S.before; decoded = rw (← A.code) S.decoded; clean = sym (fault_alike p) ∙ S.clean }

  reach_alike : {p : ℕ} → rules.Reach c p → rules.Reach e p
  reach_alike rules.Reach.first = rules.Reach.first
  reach_alike (rules.Reach.after i r S a) = rules.Reach.after i (reach_alike r) (sound_alike S) a

alike_back : {c e : Chunk} → Alike c e → Alike e c
alike_back A = record { code = sym A.code; kinds = sym A.kinds }

module _ {c e : Chunk} (A : Alike c e) where
  heights_alike : {h d : ℕ → ℕ} → rules.Heights c h d → rules.Heights e h d
  heights_alike G =
      let B = alike_back A in
      let l = length_alike A in
      record {
        first_height = G.first_height;
        first_depth = G.first_depth;
        enough = λ p i r S. G.enough p i (reach_alike B r) (sound_alike B S);
        exact = λ p i r S. G.exact p i (reach_alike B r) (sound_alike B S);
        height = λ p q i r S a m. G.height p q i (reach_alike B r) (sound_alike B S) a (rw l m);
        depth = λ p q i r S a m. G.depth p q i (reach_alike B r) (sound_alike B S) a (rw l m);
        ends = λ p q i r S a m. G.ends p q i (reach_alike B r) (sound_alike B S) a (rw l m);
      }

clean_alike : {c e : Chunk} → Alike c e → ((p : ℕ) → rules.Reach c p → p < length c.code → fault c p ≡ 0) → (p : ℕ) → rules.Reach e p
    → p < length e.code → fault e p ≡ 0
clean_alike A f p r l = sym (fault_alike A p) ∙ f p (reach_alike (alike_back A) r) (rw (length_alike A) l)

passes_alike : {c e : Chunk} → Alike c e → rules.ChunkPasses c → rules.ChunkPasses e
passes_alike A P = record { clean = clean_alike A P.clean; h = P.h; d = P.d; heights = heights_alike A P.heights }

wrong_alike : {c e : Chunk} {n p : ℕ} → Alike c e → answer.Wrong c n p → answer.Wrong e n p
wrong_alike A (answer.Wrong.faulty n p r b f z l) =
    answer.Wrong.faulty n p (reach_alike A r) (rw (← length_alike A) b) (sym (fault_alike A p) ∙ f) z
    (λ q m s. sym (fault_alike A q) ∙ l q m (reach_alike (alike_back A) s))
wrong_alike A (answer.Wrong.no_heights f g) = answer.Wrong.no_heights (clean_alike A f) (λ h d G. g h d (heights_alike (alike_back A) G))

pub answer_alike : {c e : Chunk} → Alike c e → (r : ChunkAnswer) → ChunkIs c r → ChunkIs e r
answer_alike A (Ok u) P = passes_alike A P
answer_alike A (Err f) W = wrong_alike A W
