-- The turns of a loop, and the number that it starts from. Assumes nothing.
use Rattle.std.proofs.Common.{◌≡◌, ℕ, ◌+◌, ◌%◌, ◌^◌, ◌<◌, sym, refl, ap, ◌∙◌, subst, add-one, Bool, Result, Ok, Err, rules}
use Rattle.numbers.specs.declared.Number.{Number}
use Rattle.numbers.specs.declared.NumberFault.{NumberFault}
use Rattle.numbers.specs.declared.ComparisonFault.{ComparisonFault}
use Rattle.numbers.specs.declared.CastTarget.TheVariants.{ToInteger, ToFloat}
use Rattle.numbers.specs.declared.IntKind.TheVariants.{I64}
use Rattle.numbers.specs.Compare.{less_of}
use Rattle.numbers.specs.Casts.{cast_of}
use Rattle.number_codes.specs.Payloads.{payload_of}
use Rattle.number_bench.specs.Turns.{number_at, onto, turns, Ends, Stops, steps, pace_of, count_on, value_or, back, there_and_back}

-- ---- the loop of an operation f
pub no_turn : (f : Number → Result Number NumberFault) (x : Number) → turns f 0 x ≡ Ok x
unfolding turns
no_turn f x = refl

pub next_turn : (f : Number → Result Number NumberFault) (i : ℕ) (x y z : Number) {r : Result Number NumberFault} → turns f i x ≡ Ok y → r ≡ f y → r ≡ Ok z → turns f (i + 1) x ≡ Ok z
unfolding turns
next_turn f i x y z t e g = ap (λ (n : ℕ). turns f n x) (add-one i) ∙ ap (onto f) t ∙ sym e ∙ g

-- all turns were made
pub all_turns : (f : Number → Number → Result Number NumberFault) (n i : ℕ) (x y x' y' z : Number) {left : ℕ} → x ≡ x' → y ≡ y' → i ≡ n → turns (λ a. f a y) i x ≡
    Ok z → left ≡ payload_of z → Ends (λ a. f a y') n x' n left
all_turns f n i x y x' y' z {left} p q k t l =
    record {
      all = refl;
      number = z;
      turned = subst (λ (b : Number). turns (λ a. f a b) n x' ≡ Ok z) q (subst (λ (a : Number). turns (λ w. f w y) n a ≡ Ok z) p (subst (λ (m :
          ℕ). turns (λ w. f w y) m x ≡ Ok z) k t));
      payload = l;
    }

-- a fault is no number
pub no_value : {e : NumberFault} {r : Result Number NumberFault} → r ≡ Err e → (v : Number) → r ≡ Ok v → ⊥
no_value {e} k v h = let z : ◌≡◌ {A = Result Number NumberFault} (Err e) (Ok v) = sym k ∙ h in search rules

-- a turn answered a fault
pub faulted : (f : Number → Number → Result Number NumberFault) (n i : ℕ) (x y x' y' z : Number) {r : Result Number NumberFault} {lent : ℕ} → x ≡ x' → y ≡ y' → i < n → turns (λ
    a. f a y) i x ≡ Ok z → r ≡ f z y → ((v : Number) → r ≡ Ok v → ⊥) → Stops (λ a. f a y') n x' i lent lent
faulted f n i x y x' y' z p q k t e none =
    record {
      early = k;
      number = z;
      turned = subst (λ (b : Number). turns (λ a. f a b) i x' ≡ Ok z) q (subst (λ (a : Number). turns (λ w. f w y) i a ≡ Ok z) p t);
      fault = λ v h. none v (e ∙ ap (f z) q ∙ h);
      kept = refl;
    }

-- ---- the loops that no fault ends
pub no_step : {A : Type 0} (f : A → A) (a : A) → steps f 0 a ≡ a
unfolding steps
no_step f a = refl

pub next_step : {A : Type 0} (f : A → A) (i : ℕ) (a b c : A) → steps f i a ≡ b → f b ≡ c → steps f (i + 1) a ≡ c
unfolding steps
next_step f i a b c s e = ap (λ (n : ℕ). steps f n a) (add-one i) ∙ ap f s ∙ e

pub counted : (kind : ℕ) (bound : Number) (a : ℕ) {x : Number} {r : Result Bool ComparisonFault} {p a' : ℕ} → x ≡ number_at kind a → r ≡ less_of x bound → p ≡
    pace_of r → a' ≡ (a + p) % 2 ^ 64 → count_on kind bound a ≡ a'
counted kind bound a e f g h = sym (h ∙ ap (λ (q : ℕ). (a + q) % 2 ^ 64) (g ∙ ap pace_of (f ∙ ap (λ (y : Number). less_of y bound) e)))

pub gone_and_back : (x : Number) {y z : Number} {r s : Result Number NumberFault} → r ≡ cast_of ToFloat x → y ≡ value_or r x → s ≡ cast_of (ToInteger I64) y → z ≡ value_or s y → there_and_back x ≡ z
gone_and_back x {y} e f g h = sym (h ∙ ap (λ (a : Result Number NumberFault). value_or a y) g ∙ ap back (f ∙ ap (λ (a : Result Number NumberFault). value_or a x) e))

pub all_counted : (kind n i a b : ℕ) (bound bound' : Number) → bound ≡ bound' → i ≡ n → steps (count_on kind bound) i a ≡ b → b ≡ steps (count_on kind bound') n a
all_counted kind n i a b bound bound' p k s = sym (subst (λ (y : Number). steps (count_on kind y) n a ≡ b) p (subst (λ (m : ℕ). steps (count_on kind bound) m a ≡ b) k s))

pub all_cast : (n i : ℕ) (x x' y : Number) {last : ℕ} → x ≡ x' → i ≡ n → steps there_and_back i x ≡ y → last ≡ payload_of y → last ≡ payload_of (steps there_and_back n x')
all_cast n i x x' y p k s l = l ∙ ap payload_of (sym s ∙ ap (λ (m : ℕ). steps there_and_back m x) k ∙ ap (steps there_and_back n) p)
