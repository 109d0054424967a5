-- What was read so far and what the work slices hold of it, a record later.
use mathlib.Core.Path.{◌≡◌, sym, ap, ◌∙◌}
use mathlib.Core.List.{List, [], ◌++◌, append-nil}
use Prim.Native.Nat.{ℕ, ◌+◌, ◌≤◌}
use lib.ListN.{length, take}
use lib.Seq.{length-take-le, take_at, take-append-add}
use Rattle.std.proofs.Common.{Ok}
use Rattle.definition.proofs.Judged.{Told}
use Rattle.image_records.specs.Records.{seen_of, said}
use Rattle.image_records.specs.declared.State.{State}
use Rattle.image_records.specs.declared.Record.{Record}
use Rattle.image_records.specs.declared.Record.TheVariants.{Text, Opens, Constant, Code, Ends}
use Rattle.image_store.specs.Stored.{advance, Fine, Accepted}
use Rattle.image.specs.Answer.{Slices}
use Rattle.image.specs.Reading.{Parts, new_bytes, grow, parts_of}

-- a record that is not at fault keeps the limits
pub fine : (s : State) (b : List ℕ) (r : Record) → Told (seen_of s) (length b) (said r b) → Fine s (length b) (Ok r)
fine s b Text h = h.2
fine s b (Opens arity name) h = h.3
fine s b (Constant kind v) h = (h.4, h.5)
fine s b Code h = h.3
fine s b Ends h = tt

-- the bytes: those before, and the fields that were read behind them
take_more : (p q : List ℕ) (m n : ℕ) → length p ≡ m → take (m + n) (p ++ q) ≡ p ++ take n q
take_more p q m n e = rw (← e) (take-append-add p q n)

module _ (s : State) (bytes out b : List ℕ) (h : s.bytes ≤ length bytes) (q : b ≡ take (length b) out) where
  none : take s.bytes (take s.bytes bytes ++ out) ≡ take s.bytes bytes ++ []
  none = take_at (take s.bytes bytes) out s.bytes (length-take-le s.bytes bytes h) ∙ sym (append-nil _)

  more : take (s.bytes + length b) (take s.bytes bytes ++ out) ≡ take s.bytes bytes ++ b
  more = take_more (take s.bytes bytes) out s.bytes (length b) (length-take-le s.bytes bytes h) ∙ ap (λ (l : List ℕ). take s.bytes bytes ++ l) (sym q)

  bytes_grown : (r : Record) → take (advance s (said r b)).bytes (take s.bytes bytes ++ out) ≡ take s.bytes bytes ++ new_bytes (said r b)
  bytes_grown Text = more
  bytes_grown (Opens arity name) = none
  bytes_grown (Constant k v) = none
  bytes_grown Code = more
  bytes_grown Ends = none

slices_eq :
    {a b c d e a' b' c' d' e' : List ℕ} → a ≡ a' → b ≡ b' → c ≡ c' → d ≡ d' → e ≡ e'
    → ◌≡◌ {A = Slices} (record { bytes = a; ends = b; kinds = c; payloads = d; table = e }) (record { bytes = a'; ends = b'; kinds = c'; payloads = d'; table = e' })
slices_eq q r s t u = rw (q, r, s, t, u)

pub parts_eq : {m n : State} {a b : Slices} → m ≡ n → a ≡ b → ◌≡◌ {A = Parts} (record { numbers = m; held = a }) (record { numbers = n; held = b })
parts_eq p q = rw (p, q)

pub parts_all :
    {m n : State} {a b c d e a' b' c' d' e' : List ℕ} → m ≡ n → a ≡ a' → b ≡ b' → c ≡ c' → d ≡ d' → e ≡ e'
    → ◌≡◌ {A = Parts} (record { numbers = m; held = record { bytes = a; ends = b; kinds = c; payloads = d; table = e } })
    (record { numbers = n; held = record { bytes = a'; ends = b'; kinds = c'; payloads = d'; table = e' } })
parts_all p q r s t u = parts_eq p (slices_eq q r s t u)

pub grown :
    (r : Record) (s u : State) (n : ℕ) (b bytes out ends kinds payloads table ends' kinds' payloads' table' : List ℕ)
    → s.bytes ≤ length bytes → b ≡ take n out → length b ≡ n → Accepted s (Ok r) n ends kinds payloads table u ends' kinds' payloads' table'
    → parts_of u (record { bytes = take s.bytes bytes ++ out; ends = ends'; kinds = kinds'; payloads = payloads'; table = table' })
    ≡ grow (parts_of s (record { bytes = bytes; ends = ends; kinds = kinds; payloads = payloads; table = table })) (said r b)
unfolding grow
grown r s u n b bytes out ends kinds payloads table ends' kinds' payloads' table' h q l a =
    parts_all (a.numbers b l) (rw (a.numbers b l) (bytes_grown s bytes out b h (rw l q) r)) (a.ended b l) (a.kinded b) (a.paid b) (a.rowed b)
