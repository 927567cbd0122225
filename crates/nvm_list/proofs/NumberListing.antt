-- A number that is printed is read again.
use Rattle.std.proofs.Common.{◌≡◌, ℕ, ◌+◌, ◌-◌, ◌*◌, ◌/◌, ◌%◌, ◌^◌, ◌<◌, ◌≤◌, ◌&&◌, nat_lt, nat_le, true, false, List, [], ◌∷◌, length, decimal, Option, Some, None, refl, ap, ◌∙◌, arith, rules, inl, inr}
use Rattle.std.specs.Char.{is_ascii_digit}
use Rattle.std.specs.Str.{all_ascii_digits}
use Rattle.std.specs.List.{AllByRecursion}
use Rattle.std.proofs.lemmas.Bool.{and_from, and_parts, lt-ltb, le-ltb, le-leb, lt-leb, leb-true, cond-true, cases_lt}
use Rattle.std.proofs.lemmas.Fmt.{digits_decimal, digits_value-decimal, decimal_nonempty}
use Rattle.std.proofs.lemmas.Str.Parse.{IsNumeralModel, numerals_by_fold}
use Rattle.nvm_text.specs.Lines.{hex_digit, hex2}
use Rattle.nvm_list.specs.Numbers.{value_after, is_number, number, hex_value, byte_of, hex_byte}
use Rattle.nvm_list.proofs.PlainText.{IsPlain, IsPlainWord}

own : IsNumeralModel (λ ds. all_ascii_digits ds ≡ true) (value_after 0)
own = numerals_by_fold _ (search rules) value_after (search rules)

-- digits are plain
digit_high : (c : ℕ) → is_ascii_digit c ≡ true → 48 ≤ c
digit_high c h = leb-true 48 c (and_parts (nat_le 48 c) (nat_le c 57) h).0

digits_high : (ds : List ℕ) → all_ascii_digits ds ≡ true → AllByRecursion (λ b. 48 ≤ b) ds
digits_high [] h = tt
digits_high (c ∷ cs) h = let parts = and_parts (is_ascii_digit c) (all_ascii_digits cs) h in (digit_high c parts.0, digits_high cs parts.1)

pub decimal_high : (n : ℕ) → n < 2 ^ 64 → AllByRecursion (λ b. 48 ≤ b) (decimal n)
decimal_high n fits = digits_high (decimal n) (digits_decimal own n fits)

pub high_plain : (word : List ℕ) → AllByRecursion (λ b. 48 ≤ b) word → AllByRecursion IsPlain word
high_plain [] h = tt
high_plain (b ∷ word) h = let high : 48 ≤ b = h.0 in (omega arith, high_plain word h.1)

pub decimal_word : (n : ℕ) → n < 2 ^ 64 → IsPlainWord (decimal n)
decimal_word n fits = record { some = decimal_nonempty n fits; plain = high_plain (decimal n) (decimal_high n fits) }

pub number_again : (most n : ℕ) → n < 2 ^ 64 → n ≤ most → number most (decimal n) ≡ Some n
number_again most n fits low =
    let value : value_after 0 (decimal n) ≡ n = digits_value-decimal own n fits in
    let some : nat_lt 0 (length (decimal n)) ≡ true = lt-ltb 0 (length (decimal n)) (decimal_nonempty n fits) in
    let digits : all_ascii_digits (decimal n) ≡ true = digits_decimal own n fits in
    let within : nat_le (value_after 0 (decimal n)) most ≡ true = le-leb (value_after 0 (decimal n)) most (omega arith) in
    cond-true (is_number most (decimal n)) (Some (value_after 0 (decimal n))) None (and_from (nat_lt 0 (length (decimal n)) && all_ascii_digits (decimal n)) (nat_le (value_after 0 (decimal n)) most) (and_from (nat_lt 0 (length (decimal n))) (all_ascii_digits (decimal n)) some digits) within)
    ∙ ap (λ (k : ℕ). Some k) value

-- ---- hexadecimal digits

low_digit : (d : ℕ) → d < 10 → (hex_digit d ≡ 48 + d) × (hex_value (48 + d) ≡ Some d)
low_digit d h =
    let same : 48 + d - 48 ≡ d = omega arith in (
      rw (lt-ltb d 10 h) refl,
      cond-true (nat_le 48 (48 + d) && nat_le (48 + d) 57) (Some (48 + d - 48)) _ (and_from (nat_le 48 (48 + d)) (nat_le (48 + d) 57) (le-leb 48 (48 + d) (omega arith)) (le-leb (48 + d) 57 (omega arith))) ∙ ap (λ (k : ℕ). Some k) same,
    )

high_digit : (d : ℕ) → 10 ≤ d → d < 16 → (hex_digit d ≡ 87 + d) × (hex_value (87 + d) ≡ Some d)
high_digit d h k =
    let same : 87 + d - 87 ≡ d = omega arith in
    let first : nat_le (87 + d) 57 ≡ false = lt-leb (87 + d) 57 (omega arith) in
    let above : nat_le 48 (87 + d) ≡ true = le-leb 48 (87 + d) (omega arith) in
    let second : nat_le 97 (87 + d) ≡ true = le-leb 97 (87 + d) (omega arith) in
    let third : nat_le (87 + d) 102 ≡ true = le-leb (87 + d) 102 (omega arith) in (
      rw (le-ltb d 10 h) refl,
      rw (above, first, second, third) (ap (λ (n : ℕ). Some n) same),
    )

hex_digit_again : (d : ℕ) → d < 16 → (hex_value (hex_digit d) ≡ Some d) × (48 ≤ hex_digit d)
hex_digit_again d fits =
    elim (cases_lt d 10) [
      | inl low ↦ let at = low_digit d low in let here : hex_digit d ≡ 48 + d = at.0 in (ap hex_value at.0 ∙ at.1, omega arith)
      | inr high ↦ let at = high_digit d high fits in let here : hex_digit d ≡ 87 + d = at.0 in (ap hex_value at.0 ∙ at.1, omega arith)
    ]

pub hex_again : (b : ℕ) → b < 256 → hex_byte (hex2 b) ≡ Some b
hex_again b fits =
    let high : b / 16 < 16 = omega arith in
    let low : b % 16 < 16 = omega arith in
    let whole : b / 16 * 16 + b % 16 ≡ b = omega arith in
    ap (λ (h : Option ℕ). byte_of h (hex_value (hex_digit (b % 16)))) (hex_digit_again (b / 16) high).0
    ∙ ap (λ (l : Option ℕ). byte_of (Some (b / 16)) l) (hex_digit_again (b % 16) low).0 ∙ ap (λ (k : ℕ). Some k) whole

pub hex_high : (b : ℕ) → b < 256 → AllByRecursion (λ c. 48 ≤ c) (hex2 b)
hex_high b fits =
    let high : b / 16 < 16 = omega arith in
    let low : b % 16 < 16 = omega arith in
    ((hex_digit_again (b / 16) high).1, ((hex_digit_again (b % 16) low).1, tt))
