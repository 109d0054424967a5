-- A number's digits, zeros in front of them, and bytes in hexadecimal, as the definition says them.
use Rattle.std.proofs.Common.{◌≡◌, refl, sym, ap, ◌∙◌, ℕ, suc, ◌+◌, ◌-◌, ◌*◌, ◌/◌, ◌%◌, ◌^◌, ◌<◌, List, [], ◌∷◌, ◌++◌, length, replicate, take, arith, lt-ltb, le-ltb, append_assoc}
use Rattle.std.specs.Fmt as shown
use Rattle.std.proofs.lemmas.Fmt.{AppendsLastDigit, decimal_from_appends, length-decimal-le_succ}
use lib.ListN.{get_or, length-append}
use lib.Seq.{take-suc}
use Rattle.definition.specs.Runner.{digits_to, decimal, padded, hex_digit, hex}

appends : AppendsLastDigit digits_to
appends = record { one = λ k n h. let e = lt-ltb n 10 h in rw (e, digits_to); more = λ k n h. let e = le-ltb n 10 h in rw (e, digits_to) }

-- what the kit has as n in decimal is what the definition has
pub decimal_shown : (n : ℕ) → n < 2 ^ 64 → shown.decimal n ≡ decimal n
decimal_shown n h = sym (decimal_from_appends digits_to appends (suc n) n h (let l = length-decimal-le_succ n h in omega (arith, l)))

-- the zeros that are missing, and then the digits
pub padded_pushed :
    (before mid last zeros digits : List ℕ) (n : ℕ) → n < 2 ^ 64 → digits ≡ shown.decimal n → zeros ≡ replicate (4 - length digits) 48
    → mid ≡ before ++ zeros → last ≡ mid ++ digits → last ≡ before ++ padded n
padded_pushed before mid last zeros digits n h d z p q =
    q
    ∙ ap (λ (l : List ℕ). l ++ digits) p
    ∙ append_assoc before zeros digits
    ∙ ap (λ (l : List ℕ). before ++ (l ++ digits)) z
    ∙ ap (λ (l : List ℕ). before ++ (replicate (4 - length l) 48 ++ l)) (d ∙ decimal_shown n h)

-- the bytes so far, and the two digits of one more
hex_append : (xs ys : List ℕ) → hex (xs ++ ys) ≡ hex xs ++ hex ys
hex_append [] ys = refl
hex_append (x ∷ xs) ys = ap (λ (l : List ℕ). hex_digit (x / 16) ∷ hex_digit (x % 16) ∷ l) (hex_append xs ys)

hex_next : (bytes : List ℕ) (i : ℕ) → i < length bytes → hex (take i bytes) ++ hex (get_or bytes i 0 ∷ []) ≡ hex (take (i + 1) bytes)
hex_next bytes i l =
    let more : i + 1 ≡ suc i = omega arith in
    sym (hex_append (take i bytes) (get_or bytes i 0 ∷ []))
    ∙ sym (ap hex (ap (λ (k : ℕ). take k bytes) more ∙ take-suc bytes i 0 l))

pub hex_pushed :
    (before so_far mid last bytes : List ℕ) (i x y : ℕ) → i < length bytes → x ≡ hex_digit (get_or bytes i 0 / 16)
    → y ≡ hex_digit (get_or bytes i 0 % 16) → so_far ≡ before ++ hex (take i bytes) → mid ≡ so_far ++ (x ∷ []) → last ≡ mid ++ (y ∷ [])
    → last ≡ before ++ hex (take (i + 1) bytes)
hex_pushed before so_far mid last bytes i x y h e f s p q =
    q
    ∙ ap (λ (l : List ℕ). l ++ (y ∷ [])) p
    ∙ append_assoc so_far (x ∷ []) (y ∷ [])
    ∙ ap (λ (a : ℕ). so_far ++ (a ∷ y ∷ [])) e
    ∙ ap (λ (a : ℕ). so_far ++ (hex_digit (get_or bytes i 0 / 16) ∷ a ∷ [])) f
    ∙ ap (λ (l : List ℕ). l ++ hex (get_or bytes i 0 ∷ [])) s
    ∙ append_assoc before (hex (take i bytes)) (hex (get_or bytes i 0 ∷ []))
    ∙ ap (λ (l : List ℕ). before ++ l) (hex_next bytes i h)

pub two_longer :
    (so_far mid last : List ℕ) (x y start i : ℕ) → mid ≡ so_far ++ (x ∷ []) → last ≡ mid ++ (y ∷ []) → length so_far ≡ start + 2 * i
    → length last ≡ start + 2 * (i + 1)
two_longer so_far mid last x y start i p q s =
    ap length q
    ∙ length-append mid (y ∷ [])
    ∙ ap (λ (l : List ℕ). length l + 1) p
    ∙ ap (λ (n : ℕ). n + 1) (length-append so_far (x ∷ []))
    ∙ omega (arith, s)
