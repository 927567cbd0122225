-- The number of a status, digit by digit.
use Rattle.std.proofs.Common.{◌≡◌, ℕ, suc, ◌+◌, ◌*◌, ◌/◌, ◌%◌, ◌<◌, ◌≤◌, cond, Bool, false, List, [], ◌∷◌, ◌++◌, drop, ap, ◌∙◌, arith}
use Rattle.std.proofs.lemmas.Bool.{eq-eqb, ne_eqb}
use Rattle.std.specs.Fmt.{digits, digits_onto, digit_glyph}
use Rattle.nvm_text.specs.Lines.{hex2}

abbrev glyph : ℕ → ℕ
glyph d = digit_glyph false d

abbrev after_last : ℕ → ℕ → List ℕ → Bool → List ℕ
after_last k n acc ends = cond ends (glyph (n % 16) ∷ acc) (digits_onto k 16 false (n / 16) (glyph (n % 16) ∷ acc))

last_digit : (k n : ℕ) (acc : List ℕ) → n / 16 ≡ 0 → digits_onto (suc k) 16 false n acc ≡ glyph (n % 16) ∷ acc
last_digit k n acc e = ap (after_last k n acc) (eq-eqb (n / 16) 0 e)

next_digit : (k n : ℕ) (acc : List ℕ) → 16 ≤ n
    → digits_onto (suc k) 16 false n acc ≡ digits_onto k 16 false (n / 16) (glyph (n % 16) ∷ acc)
next_digit k n acc large =
    let more : 0 < n / 16 = omega arith in ap (after_last k n acc) (ne_eqb (n / 16) 0 (λ e. absurd (omega (arith, e, more))))

abbrev four : ℕ → ℕ → ℕ → ℕ → List ℕ
four a b c d = glyph a ∷ glyph b ∷ glyph c ∷ glyph d ∷ []

module _ (t c : ℕ) (few : t < 256) (small : c < 256) where
  pub one_digit : t * 256 + c < 16 → digits 16 false (t * 256 + c) ≡ drop 3 (hex2 t ++ hex2 c)
  unfolding digits
  one_digit low =
      let is : (t * 256 + c) % 16 ≡ c % 16 = omega arith in
      last_digit 63 (t * 256 + c) [] (omega arith) ∙ ap (λ (d : ℕ). glyph d ∷ []) is

  pub two_digits : 16 ≤ t * 256 + c → t * 256 + c < 256 → digits 16 false (t * 256 + c) ≡ drop 2 (hex2 t ++ hex2 c)
  unfolding digits
  two_digits high low =
      let last : (t * 256 + c) % 16 ≡ c % 16 = omega arith in
      let first : (t * 256 + c) / 16 % 16 ≡ c / 16 = omega arith in
      next_digit 63 (t * 256 + c) [] (omega arith) ∙ last_digit 62 ((t * 256 + c) / 16) (glyph ((t * 256 + c) % 16) ∷ []) (omega arith)
      ∙ ap (λ (d : ℕ). glyph ((t * 256 + c) / 16 % 16) ∷ glyph d ∷ []) last ∙ ap (λ (d : ℕ). glyph d ∷ glyph (c % 16) ∷ []) first

  pub three_digits : 256 ≤ t * 256 + c → t * 256 + c < 4096 → digits 16 false (t * 256 + c) ≡ drop 1 (hex2 t ++ hex2 c)
  unfolding digits
  three_digits high low =
      let last : (t * 256 + c) % 16 ≡ c % 16 = omega arith in
      let middle : (t * 256 + c) / 16 % 16 ≡ c / 16 = omega arith in
      let first : (t * 256 + c) / 16 / 16 % 16 ≡ t % 16 = omega arith in
      next_digit 63 (t * 256 + c) [] (omega arith)
      ∙ next_digit 62 ((t * 256 + c) / 16) (glyph ((t * 256 + c) % 16) ∷ []) (omega arith)
      ∙ last_digit 61 ((t * 256 + c) / 16 / 16) (glyph ((t * 256 + c) / 16 % 16) ∷ glyph ((t * 256 + c) % 16) ∷ []) (omega arith)
      ∙ ap (λ (d : ℕ). glyph ((t * 256 + c) / 16 / 16 % 16) ∷ glyph ((t * 256 + c) / 16 % 16) ∷ glyph d ∷ []) last
      ∙ ap (λ (d : ℕ). glyph ((t * 256 + c) / 16 / 16 % 16) ∷ glyph d ∷ glyph (c % 16) ∷ []) middle
      ∙ ap (λ (d : ℕ). glyph d ∷ glyph (c / 16) ∷ glyph (c % 16) ∷ []) first

  pub four_digits : 4096 ≤ t * 256 + c → digits 16 false (t * 256 + c) ≡ drop 0 (hex2 t ++ hex2 c)
  unfolding digits
  four_digits high =
      let last : (t * 256 + c) % 16 ≡ c % 16 = omega arith in
      let third : (t * 256 + c) / 16 % 16 ≡ c / 16 = omega arith in
      let second : (t * 256 + c) / 16 / 16 % 16 ≡ t % 16 = omega arith in
      let first : (t * 256 + c) / 16 / 16 / 16 % 16 ≡ t / 16 = omega arith in
      next_digit 63 (t * 256 + c) [] (omega arith)
      ∙ next_digit 62 ((t * 256 + c) / 16) (glyph ((t * 256 + c) % 16) ∷ []) (omega arith)
      ∙ next_digit 61 ((t * 256 + c) / 16 / 16) (glyph ((t * 256 + c) / 16 % 16) ∷ glyph ((t * 256 + c) % 16) ∷ []) (omega arith)
      ∙ last_digit 60 ((t * 256 + c) / 16 / 16 / 16)
      (glyph ((t * 256 + c) / 16 / 16 % 16) ∷ glyph ((t * 256 + c) / 16 % 16) ∷ glyph ((t * 256 + c) % 16) ∷ []) (omega arith)
      ∙ ap (λ (d : ℕ). four ((t * 256 + c) / 16 / 16 / 16 % 16) ((t * 256 + c) / 16 / 16 % 16) ((t * 256 + c) / 16 % 16) d) last
      ∙ ap (λ (d : ℕ). four ((t * 256 + c) / 16 / 16 / 16 % 16) ((t * 256 + c) / 16 / 16 % 16) d (c % 16)) third
      ∙ ap (λ (d : ℕ). four ((t * 256 + c) / 16 / 16 / 16 % 16) d (c / 16) (c % 16)) second
      ∙ ap (λ (d : ℕ). glyph d ∷ glyph (t % 16) ∷ glyph (c / 16) ∷ glyph (c % 16) ∷ []) first
