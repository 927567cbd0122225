-- A number is read digit by digit, and not further than the digit that takes it above its bound.
use Rattle.std.proofs.Common.{◌≡◌, ℕ, ◌+◌, ◌-◌, ◌*◌, ◌<◌, ◌≤◌, Bool, true, false, cond, ◌&&◌, nat_lt, nat_le, List, [], ◌∷◌, length, Some, None, refl, sym, ◌∙◌, arith, inl, inr}
use Rattle.std.specs.Char.{is_ascii_digit}
use Rattle.std.specs.Str.{all_ascii_digits}
use Rattle.std.proofs.lemmas.Bool.{and_cases, and_left, and_right, leb-false, lt-leb, cond-false}
use Rattle.nvm_list.specs.Numbers.{value_after, is_number, number, with_digit}

-- digits more make no number less
pub grows : (n : ℕ) (digits : List ℕ) → n ≤ value_after n digits
grows n [] = omega arith
grows n (digit ∷ digits) = let more : n * 10 + (digit - 48) ≤ value_after (n * 10 + (digit - 48)) digits = grows (n * 10 + (digit - 48)) digits in omega arith

no_number : (most : ℕ) (word : List ℕ) → is_number most word ≡ false → number most word ≡ None
no_number most word h = cond-false (is_number most word) (Some (value_after 0 word)) None h

digit_refused : (test : Bool) (n : ℕ) → cond test (Some n) None ≡ None → test ≡ false
digit_refused true n e = absurd cc
digit_refused false n e = refl

-- where a digit is refused, the word is no number
pub refused : (most n digit : ℕ) (digits word : List ℕ) → with_digit most n digit ≡ None
    → value_after n (digit ∷ digits) ≡ value_after 0 word → all_ascii_digits (digit ∷ digits) ≡ all_ascii_digits word → number most word ≡ None
refused most n digit digits word none value all =
    let m : ℕ = n * 10 + (digit - 48) in
    elim (and_cases (is_ascii_digit digit) (nat_le m most) (digit_refused (is_ascii_digit digit && nat_le m most) m none)) [
      | inl other ↦ let wrong : all_ascii_digits word ≡ false = sym all ∙ and_left (is_ascii_digit digit) (all_ascii_digits digits) other in
          no_number most word (and_left _ (nat_le (value_after 0 word) most) (and_right (nat_lt 0 (length word)) (all_ascii_digits word) wrong))
      | inr large ↦ let above : most < m = leb-false m most large in
          let more : m ≤ value_after m digits = grows m digits in
          let whole : value_after m digits ≡ value_after 0 word = value in
          let large_whole : nat_le (value_after 0 word) most ≡ false = lt-leb (value_after 0 word) most (omega arith) in
          no_number most word (and_right (nat_lt 0 (length word) && all_ascii_digits word) (nat_le (value_after 0 word) most) large_whole)
    ]
