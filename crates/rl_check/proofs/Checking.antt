-- From what `load` and `check_image` ensure to what `check` ensures.
use mathlib.Core.Path.{◌≡◌, refl, sym, ap, ◌∙◌}
use mathlib.Core.Bool.{Bool, true, false}
use mathlib.Core.Logic.{◌⊎◌, inl, inr}
use mathlib.Core.List.{List}
use Prim.Native.Nat.{ℕ, ◌*◌, ◌≤◌}
use native.Mathlib.Omega.{arith}
use borrow.Author.Tests.{le-ltb}
use Rattle.std.proofs.Common.{◌||◌, ltb}
use lib.ListN.{length}
use Rattle.definition.specs.Image.{Chunk, Image}
use Rattle.definition.specs.Lines.{image, refused, load_image}
use Rattle.definition.specs.Answers.{AnswersLoaded}
use Rattle.definition.proofs.Judged.{true_not_false}
use Rattle.definition.proofs.OneAnswer.{bytes_settled}
use Rattle.definition.proofs.Protected.{passed_protected}
use Rattle.image.specs.Answer.{Slices, number_of, short, LoadAnswer, Loads, refuses, load_in}
use Rattle.image.specs.Held.{Held, HeldChunk, Found}
use Rattle.image_records.specs.declared.Reason.{Reason}
use Rattle.image_records.specs.declared.Reason.TheVariants.{ShortSlice}
use Rattle.image.specs.declared.Counts.{Counts}
use Rattle.image_store.specs.declared.Refusal.{Refusal}
use Rattle.std.proofs.Common.{Ok, Err}
use Rattle.image.proofs.Found.{found, rows_within, refused_as}
use Rattle.stack_check.specs.Answer.{ChunkHeld, ImageHeld, Lent, Decided, checked_of}
use Rattle.image.specs.declared.loaded.Loaded.{Loaded}
use Rattle.stack_check.specs.Answer as answer
use Rattle.stack_check.specs.declared.ImageFault.{ImageFault}
use Rattle.std.proofs.Common.{Ok, Err}
use Rattle.rl_check.specs.Work.{CheckWork, is_short, check_short}
use Rattle.rl_check.specs.Check.{answer_of, Checks, Ready, Judges}
use Rattle.rl_check.specs.declared.CheckAnswer.{CheckAnswer}
use Rattle.rl_check.specs.declared.CheckAnswer.TheVariants.{Refused, Pass, Fault}
use Rattle.load_answers.proofs.NoNine.{never, nine, refused_by_nine, low_refusal}

-- an image that `load` left in the slices, as the stack check takes it
held_chunk : {m : Slices} {c : ℕ} {d : Chunk} → HeldChunk m c d → ChunkHeld m.bytes m.kinds m.table c d
held_chunk h =
    record {
      row_within = h.row_within;
      constants_rise = h.constants_rise;
      kinds_within = h.kinds_within;
      kinds_are = h.kinds_are;
      code_rises = h.code_rises;
      code_within = h.code_within;
      code_is = h.code_is;
    }

image_held : {m : Slices} {n : Counts} {im : Image} → Held m n im → ImageHeld m.bytes m.kinds m.table n.chunks im
image_held h = record { count = h.chunk_count; held = λ c l. held_chunk (h.chunks_held c l) }

-- what the stack check is lent, and what it answers
module _ (m : Loaded) where
  pub lent : {room : ℕ} → Ready m room → Lent m room
  lent R = (R.found, R.held, λ c l. let s = (R.kept.chunks_kept c l).short_code in omega (arith, R.long))

  pub passes_judged : (r : answer.CheckAnswer) {u : Unit {0}} → r ≡ Ok u → Decided m r → Judges m Pass
  passes_judged r e D im h = rw e at ((D im h (checked_of r)).0 refl)

  pub fault_judged : (r : answer.CheckAnswer) (f : ImageFault) → r ≡ Err f → Decided m r → Judges m (Fault f.reason f.chunk f.at)
  fault_judged r f e D im h = rw e at ((D im h (checked_of r)).0 refl)

in_load : (a b c d : Bool) → (a || (b || c)) ≡ true → (a || (b || (c || d))) ≡ true
in_load true b c d e = refl
in_load false true c d e = refl
in_load false false true d e = refl
in_load false false false d e = true_not_false (sym e)

-- a slice is short
module _ (w : CheckWork) where
  pub short_three : is_short (length w.heights) (length w.depths) (length w.todo) ≡ true → check_short w ≡ true
  unfolding check_short
  short_three e = in_load (ltb (length w.heights) 4096) (ltb (length w.depths) 4096) (ltb (length w.todo) 4096) (short w.loading) e

  as_load : 4096 ≤ length w.heights → 4096 ≤ length w.depths → 4096 ≤ length w.todo → check_short w ≡ short w.loading
  unfolding check_short
  as_load f g h = rw (le-ltb (length w.heights) 4096 f, le-ltb (length w.depths) 4096 g, le-ltb (length w.todo) 4096 h)

-- an answer in slices of which only the first elements are lent
pub checks_more :
    {bytes : List ℕ} {r : CheckAnswer} (w v : CheckWork) → w.loading ≡ v.loading
    → 4096 ≤ length w.heights → 4096 ≤ length w.depths → 4096 ≤ length w.todo → 4096 ≤ length v.heights → 4096 ≤ length v.depths → 4096 ≤ length v.todo
    → Checks bytes w r → Checks bytes v r
checks_more w v e f g h i j k C =
    let same : check_short v ≡ check_short w = as_load v i j k ∙ sym (ap short e) ∙ sym (as_load w f g h) in
    record { short = rw same C.short; decides = rw same C.decides; protected = C.protected }

module _ (bytes : List ℕ) (w : CheckWork) where
  pub short_checks : check_short w ≡ true → Checks bytes w (Refused ShortSlice 0)
  short_checks e =
      record {
        short = (λ _. refl, λ _. e);
        decides = λ f. true_not_false (sym e ∙ f);
        protected = λ q. never (cc);
      }

  module _ (f : 4096 ≤ length w.heights) (g : 4096 ≤ length w.depths) (h : 4096 ≤ length w.todo) where
    same : check_short w ≡ short w.loading
    same = as_load w f g h

    -- load refused
    refused_short : (e : Reason) (k : ℕ) → short w.loading ≡ true → refuses (number_of e) k ≡ load_in w.loading bytes → Checks bytes w (Refused e k)
    unfolding load_in
    refused_short e k s l =
        let q = refused_by_nine e k (rw s at l) in
        rw (q.0, q.1) (short_checks (same ∙ s))

    refused_long : (e : Reason) (k : ℕ) → short w.loading ≡ false → load_image bytes ≡ refused (number_of e) k → Checks bytes w (Refused e k)
    refused_long e k s l =
        record {
          short = (λ t. true_not_false (sym t ∙ same ∙ s), λ q. absurd (not_nine (nine e (cc)) (low_refusal bytes (number_of e) k l)));
          decides = λ _. bytes_settled bytes (answer_of (Refused e k)) (rw l refl);
          protected = λ q. never (cc);
        }
      where
        not_nine : number_of e ≡ 9 → number_of e ≤ 7 → ⊥
        not_nine a b = omega arith

    pub refused_checks : (m : Slices) (r : LoadAnswer) (x : Refusal) → r ≡ Err x → Loads bytes w.loading r m → Checks bytes w (Refused x.reason x.line)
    refused_checks m r x q l = go (short w.loading) refl
      where
        long : short w.loading ≡ false → (short w.loading ≡ true) ⊎ (load_image bytes ≡ refused (number_of x.reason) x.line) → Checks bytes w (Refused x.reason x.line)
        long s (inl t) = true_not_false (sym t ∙ s)
        long s (inr t) = refused_long x.reason x.line s t

        go : (t : Bool) → short w.loading ≡ t → Checks bytes w (Refused x.reason x.line)
        go true s = refused_short x.reason x.line s (rw q at l.answer)
        go false s = long s (refused_as bytes w.loading m r x q l)

    -- load did not refuse
    module _ (m : Slices) (r : LoadAnswer) (n : Counts) (q : r ≡ Ok n) (l : Loads bytes w.loading r m) where
      there : Found bytes w.loading m n
      there = found bytes w.loading m r n q l

      pub rows : 4 * n.chunks ≤ length m.table
      rows = rows_within there.held

      pub ready : (x : Loaded) {room : ℕ} → x.bytes.now ≡ m.bytes → x.kinds.now ≡ m.kinds → x.table.now ≡ m.table → x.counts ≡ n → 4096 ≤ room → Ready x room
      ready x a b c d e = record { found = there.found; held = rw (a, b, c, d) (image_held there.held); kept = there.kept; long = e }

      pub loaded_checks :
          (a : CheckAnswer) → ((im : Image) → ImageHeld m.bytes m.kinds m.table n.chunks im → AnswersLoaded (image im) (answer_of a)) → Checks bytes w a
      loaded_checks a j =
          record {
            short = (λ t. true_not_false (sym t ∙ same ∙ there.long), λ e. absurd (rw e at here));
            decides = λ _. bytes_settled bytes (answer_of a) answers;
            protected = λ e im i budget. passed_protected bytes im i (rw e at answers) budget;
          }
        where
          here : AnswersLoaded (image there.found) (answer_of a)
          here = j there.found (image_held there.held)

          answers : AnswersLoaded (load_image bytes) (answer_of a)
          answers = rw there.is here
