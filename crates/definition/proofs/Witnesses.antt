-- The images and the call of specs/Witnesses.
use mathlib.Core.Path.{◌≡◌, refl, sym, ◌∙◌, ap, subst, subst⁻¹}
use mathlib.Core.Logic.{◌⊎◌, inl, inr}
use mathlib.Core.List.{List, [], ◌∷◌}
use mathlib.Core.Option.{none, some, some-injective}
use mathlib.Core.Bool.{Bool, true, false}
use Prim.Native.Nat.{ℕ, zero, suc, ◌+◌, ◌<◌}
use native.Mathlib.Omega.{arith}
use native.Mathlib.Nat.{not-suc-le-zero, le_of_suc-le-suc}
use lib.Dec.{eqb, lit<}
use lib.ListN.{length, get_or}
use Rattle.definition.specs.Image.{Chunk, Image, chunk_at}
use Rattle.definition.specs.Runner.{ascii}
use Rattle.definition.specs.Lines.{
  image,
  split,
  digit,
  bytes_of,
  line_of,
  number_from,
  printable,
  text_of,
  chunk_of,
  listed,
  widths,
  width_of,
  scalar,
  allowed,
  constant_of,
  code_line,
  code_of,
  end_of,
  record_of,
  reads,
  load_image,
}
use Rattle.definition.specs.Table.{op_codes, Jump}
use Rattle.definition.specs.Constants.{constant_head, constant_at, function_at, str_at}
use Rattle.definition.specs.Decode.{Instr, word, decode, target_at, fault}
use Rattle.definition.specs.StackCheck.{After, Reach, first, after, Heights, ChunkPasses, Passes}
use Rattle.definition.specs.CheckAnswer.{fails, Wrong, faulty, no_heights, Answers, passes, refuses}
use Rattle.definition.specs.Step.{
  if_else,
  or_fault,
  taking,
  answer,
  grown,
  define,
  pop_scope,
  branch,
  call,
  propagate,
  capture,
  perform,
  fits,
  bounded,
  kept_starts,
  kept_locals,
  finish_call,
  carry,
  begin,
  budgeted,
  within,
  step_in,
  step,
}
use Rattle.definition.specs.Value.{nest, nest_over, nests}
use Rattle.definition.specs.Trees.{trees}
use Rattle.definition.specs.Run.{initial, at, trace, run_frames, run}
use Rattle.definition.specs.Callers.{CallReturned, depth}
use Rattle.definition.specs.Claims.{ReturnedBy, by_propagate}
use Rattle.definition.specs.Witnesses.{calls, calls_text, unknown, backward, missing, bare, second, Witnessed}
use Rattle.definition.proofs.TestedHeights as tested
use Rattle.definition.proofs.TestedHeights.{both, after_test, exact_test, pick, arrives, stands, local, every}
use Rattle.definition.proofs.Protected.{begins, demand3, no_code}
use Rattle.definition.proofs.Frames.{runs}
use Rattle.definition.proofs.CheckedImages.{passing_passes}

-- the offsets of a list
abbrev marks : List ℕ → ℕ → Bool
marks [] p = false
marks (x ∷ xs) p = elim (eqb x p) [ true ↦ true | false ↦ marks xs p ]

calls_pass : Passes calls
unfolding Passes chunk_at every local pick stands arrives both after_test exact_test fault decode word op_codes constant_at function_at str_at target_at
calls_pass zero k =
    tested.passes (chunk_at calls 0) (marks (0 ∷ 3 ∷ 6 ∷ 9 ∷ 10 ∷ 13 ∷ 16 ∷ 19 ∷ []))
    (λ p. get_or (0 ∷ 0 ∷ 0 ∷ 1 ∷ 0 ∷ 0 ∷ 2 ∷ 0 ∷ 0 ∷ 1 ∷ 0 ∷ 0 ∷ 0 ∷ 1 ∷ 0 ∷ 0 ∷ 2 ∷ 0 ∷ 0 ∷ 1 ∷ []) p 0) (λ p. 0) tt refl refl tt
calls_pass (suc zero) k = tested.passes (chunk_at calls 1) (marks (0 ∷ 3 ∷ 4 ∷ 5 ∷ 6 ∷ [])) (λ p. get_or (0 ∷ 0 ∷ 0 ∷ 1 ∷ 1 ∷ 1 ∷ []) p 0) (λ p. 0) tt refl refl tt
calls_pass (suc (suc c)) k = absurd (not-suc-le-zero (le_of_suc-le-suc (le_of_suc-le-suc k)))

-- ---- Images that fail
none_below : (im : Image) (b : ℕ) → b < 0 → ChunkPasses (chunk_at im b)
none_below im b h = absurd (not-suc-le-zero h)

-- the first instruction of a chunk is at fault
at_first : (c : Chunk) (n : ℕ) → 0 < length c.code → fault c 0 ≡ suc n → Wrong c (suc n) 0
at_first c n h e = faulty (suc n) 0 first h e (omega arith) (λ q k r. absurd (not-suc-le-zero k))

-- at 0 stands Jump 1, and nothing at 4
jump : Instr
jump = record { op = Jump; a = 1; b = 25382; c = 0; d = 0 }

at_0 : decode (chunk_at unknown 0).code 0 ≡ some jump
unfolding chunk_at decode word op_codes jump
at_0 = refl

at_4 : decode (chunk_at unknown 0).code 4 ≡ none
unfolding chunk_at decode word op_codes
at_4 = refl

-- so nothing else is reached
reached : (p : ℕ) → Reach (chunk_at unknown 0) p → (p ≡ 0) ⊎ (p ≡ 4)
unfolding jump
reached p first = inl refl
reached q (after {p = p} i r so e) = go (reached p r)
  where
    go : (p ≡ 0) ⊎ (p ≡ 4) → (q ≡ 0) ⊎ (q ≡ 4)
    go (inl z) =
        let j : jump ≡ i = some-injective jump i (sym at_0 ∙ subst (λ (x : ℕ). decode (chunk_at unknown 0).code x ≡ some i) z so.decoded) in
        let f : q ≡ p + 3 + 1 = subst⁻¹ (λ (x : Instr). After x.op x.a p q) j e in
        inr (omega arith)
    go (inr z) =
        let d : none ≡ some i = sym at_4 ∙ subst (λ (x : ℕ). decode (chunk_at unknown 0).code x ≡ some i) z so.decoded in
        let c : ◌≡◌ {A = ℕ} 0 1 = cc in
        absurd (omega arith)

fails_10 : Answers unknown (fails 10 0 4)
unfolding chunk_at fault decode word op_codes constant_at function_at str_at target_at
fails_10 = refuses 10 0 4 (omega arith) (none_below unknown) (faulty 10 4 jumped (lit< tt) refl (omega arith) lower)
  where
    jumped : Reach (chunk_at unknown 0) 4
    jumped = after {p = 0} _ first (record { before = lit< tt; decoded = refl; clean = refl }) refl

    lower : (q : ℕ) → q < 4 → Reach (chunk_at unknown 0) q → fault (chunk_at unknown 0) q ≡ 0
    lower q k r = go (reached q r)
      where
        go : (q ≡ 0) ⊎ (q ≡ 4) → fault (chunk_at unknown 0) q ≡ 0
        go (inl z) = ap (fault (chunk_at unknown 0)) z
        go (inr z) = absurd (omega arith)

fails_11 : Answers backward (fails 11 0 0)
unfolding chunk_at fault decode word op_codes constant_at function_at str_at target_at
fails_11 = refuses 11 0 0 (omega arith) (none_below backward) (at_first (chunk_at backward 0) 10 (lit< tt) refl)

fails_12 : Answers missing (fails 12 0 0)
unfolding chunk_at fault decode word op_codes constant_at function_at str_at target_at
fails_12 = refuses 12 0 0 (omega arith) (none_below missing) (at_first (chunk_at missing 0) 11 (lit< tt) refl)

fails_13 : Answers bare (fails 13 0 0)
unfolding chunk_at fault decode word op_codes constant_at function_at str_at target_at
fails_13 = refuses 13 0 0 (omega arith) (none_below bare) (no_heights clean no_heights_lem)
  where
    clean : (p : ℕ) → Reach (chunk_at bare 0) p → p < 1 → fault (chunk_at bare 0) p ≡ 0
    clean zero r k = refl
    clean (suc p) r k = absurd (not-suc-le-zero (le_of_suc-le-suc k))

    no_heights_lem : (h d : ℕ → ℕ) → Heights (chunk_at bare 0) h d → ⊥
    no_heights_lem h d H =
        let n = H.enough 0 _ first (record { before = lit< tt; decoded = refl; clean = refl }) in
        omega (arith, n, H.first_height)

fails_second : Answers second (fails 10 1 0)
unfolding chunk_at fault decode word op_codes constant_at function_at str_at target_at
fails_second = refuses 10 1 0 (lit< tt) before (at_first (chunk_at second 1) 9 (lit< tt) refl)
  where
    before : (b : ℕ) → b < 1 → ChunkPasses (chunk_at second b)
    before zero h = no_code
    before (suc b) h = absurd (not-suc-le-zero (le_of_suc-le-suc h))

-- ---- A call that returned by a Propagate of an Err
still_on : (k : ℕ) → 2 < k → k < 6 → depth (at trees (run trees calls 20).states 2) < depth (at trees (run trees calls 20).states k)
unfolding chunk_at op_codes word decode target_at constant_head constant_at function_at str_at if_else or_fault taking answer grown define pop_scope branch call
    propagate capture perform fits bounded kept_starts kept_locals finish_call carry begin budgeted within step_in step trace run_frames nest nest_over
    nests
still_on zero a b = absurd (omega arith)
still_on (suc zero) a b = absurd (omega arith)
still_on (suc (suc zero)) a b = absurd (omega arith)
still_on (suc (suc (suc zero))) a b = lit< tt
still_on (suc (suc (suc (suc zero)))) a b = lit< tt
still_on (suc (suc (suc (suc (suc zero))))) a b = lit< tt
still_on (suc (suc (suc (suc (suc (suc k)))))) a b = absurd (omega arith)

returned : CallReturned trees calls (run trees calls 20).states 2 6 1
unfolding chunk_at op_codes word decode target_at constant_head constant_at function_at str_at if_else or_fault taking answer grown define pop_scope branch call
    propagate capture perform fits bounded kept_starts kept_locals finish_call carry begin budgeted within step_in step trace run_frames nest nest_over
    nests
returned = record {
  caller = record { chunk = 0; position = 6; scope_base = 0; local_base = 0; base_scopes = 0 };
  below = [];
  call = record { frames = refl; before = lit< tt; instr = _; stands = refl; is_call = refl; args = refl };
  later = lit< tt;
  ran = lit< tt;
  puts = refl;
  stays = still_on;
  goes = refl;
}

returned_by : ReturnedBy trees calls (run trees calls 20).states 2 6
unfolding chunk_at op_codes word decode target_at constant_head constant_at function_at str_at if_else or_fault taking answer grown define pop_scope branch call
    propagate capture perform fits bounded kept_starts kept_locals finish_call carry begin budgeted within step_in step trace run_frames nest nest_over
    nests
returned_by = record {
  last = 5;
  just_before = refl;
  frame = record { chunk = 1; position = 4; scope_base = 0; local_base = 0; base_scopes = 1 };
  frames = refl;
  leaving = by_propagate _ refl refl refl;
}

loads : load_image (ascii calls_text) ≡ image calls
unfolding split digit bytes_of line_of number_from printable text_of chunk_of listed widths width_of scalar allowed constant_of code_line code_of end_of record_of reads load_image
loads = refl

pub witnessed : Witnessed
witnessed = record {
  loads = loads;
  passing = passes calls_pass;
  each_passes = passing_passes;
  fault10 = fails_10;
  fault11 = fails_11;
  fault12 = fails_12;
  fault13 = fails_13;
  in_second = fails_second;
  returned = returned;
  by_propagate = returned_by;
  kept = (demand3 trees calls calls_pass 20 (initial trees) (begins trees) (run trees calls 20) (runs trees calls 20 (initial trees))).calls 2 6 1 returned;
}
