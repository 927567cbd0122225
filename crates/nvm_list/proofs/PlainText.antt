-- Words of no blank, and the lines that they are listed in.
use Rattle.std.proofs.Common.{◌≡◌, ℕ, ◌<◌, ◌≤◌, ◌||◌, Bool, false, List, [], ◌∷◌, ◌++◌, length, take, codes, All, refl, sym, ap, ◌∙◌, append_assoc, arith}
use Rattle.std.specs.List.{slice_split, position_or_len, before_first, filter, AllByRecursion}
use Rattle.std.proofs.lemmas.Bool.{ne_eqb, or_from}
use Rattle.std.proofs.lemmas.List.{append-nil, take_all}
use Rattle.std.proofs.lemmas.List.Elements.{All-from_recursion, All-get_or}
use Rattle.std.proofs.lemmas.List.Splits.{slice_split_at, slice_split_none}
use Rattle.std.proofs.lemmas.List.Sums.{position_or_len_is}
use Rattle.nvm_list.specs.Words.{is, is_blank, is_word, words_in, words, text_lines}
use Rattle.nvm_list.specs.Listing.{behind_spaces}
use Rattle.nvm_list.proofs.Cutting.{word_kept}

-- a byte that ends neither a word nor a line and begins no comment
abbrev pub IsPlain : ℕ → Type 0
IsPlain b = 36 ≤ b

pub record IsPlainWord (word : List ℕ) : Type 0 where
  pub some : 0 < length word
  pub plain : AllByRecursion IsPlain word

pub other_byte : (b byte : ℕ) → byte < 36 → IsPlain b → is byte b ≡ false
other_byte b byte low high = ne_eqb b byte (λ e. absurd (omega arith))

not_blank : (b : ℕ) → IsPlain b → is_blank b ≡ false
not_blank b high = or_from (is 32 b || is 9 b) (is 13 b) (or_from (is 32 b) (is 9 b) (other_byte b 32 (omega arith) high) (other_byte b 9 (omega arith) high)) (other_byte b 13 (omega arith) high)

no_blank : (word : List ℕ) → AllByRecursion IsPlain word → AllByRecursion (λ b. is_blank b ≡ false) word
no_blank [] h = tt
no_blank (b ∷ word) h = (not_blank b h.0, no_blank word h.1)

pub none_is : (byte : ℕ) (word : List ℕ) → byte < 36 → AllByRecursion IsPlain word → AllByRecursion (λ b. is byte b ≡ false) word
none_is byte [] low h = tt
none_is byte (b ∷ word) low h = (other_byte b byte low h.0, none_is byte word low h.1)

pub both : (P : ℕ → Type 0) (xs ys : List ℕ) → AllByRecursion P xs → AllByRecursion P ys → AllByRecursion P (xs ++ ys)
both P [] ys h k = k
both P (x ∷ xs) ys h k = (h.0, both P xs ys h.1 k)

-- ---- words

pub words_again : (word : List ℕ) (ws : List (List ℕ)) → IsPlainWord word → AllByRecursion IsPlainWord ws → words_in (word ++ behind_spaces ws) ≡ word ∷ ws
words_again word [] h hs =
    ap words_in (append-nil word)
    ∙ ap (λ (ps : List (List ℕ)). filter is_word ps) (slice_split_none is_blank word (All-from_recursion (λ b. is_blank b ≡ false) word (no_blank word h.plain)))
    ∙ word_kept word [] h.some
words_again word (next ∷ ws) h hs =
    ap (λ (ps : List (List ℕ)). filter is_word ps) (slice_split_at is_blank word 32 (next ++ behind_spaces ws) (All-from_recursion (λ b. is_blank b ≡ false) word (no_blank word h.plain)) refl)
    ∙ word_kept word (slice_split is_blank (next ++ behind_spaces ws)) h.some
    ∙ ap (λ (vs : List (List ℕ)). word ∷ vs) (words_again next ws hs.0 hs.1)

-- ---- lines

line_has_none : (byte : ℕ) (ws : List (List ℕ)) → byte < 36 → is byte 32 ≡ false → AllByRecursion IsPlainWord ws → AllByRecursion (λ b. is byte b ≡ false) (behind_spaces ws)
line_has_none byte [] low space h = tt
line_has_none byte (word ∷ ws) low space h = (space, both (λ b. is byte b ≡ false) word (behind_spaces ws) (none_is byte word low h.0.plain) (line_has_none byte ws low space h.1))

whole_has_none : (byte : ℕ) (word : List ℕ) (ws : List (List ℕ)) → byte < 36 → is byte 32 ≡ false → IsPlainWord word → AllByRecursion IsPlainWord ws → All (λ b. is byte b ≡ false) (word ++ behind_spaces ws)
whole_has_none byte word ws low space h hs = All-from_recursion (λ b. is byte b ≡ false) (word ++ behind_spaces ws) (both (λ b. is byte b ≡ false) word (behind_spaces ws) (none_is byte word low h.plain) (line_has_none byte ws low space hs))

pub all_before : (p : ℕ → Bool) (xs : List ℕ) → All (λ b. p b ≡ false) xs → before_first p xs ≡ xs
all_before p xs h =
    let place : position_or_len p xs ≡ length xs = position_or_len_is p xs (length xs) 0 (omega arith) (λ k lt. All-get_or (λ b. p b ≡ false) xs k 0 lt h) (λ lt. absurd (omega (arith, lt))) in
    ap (λ (n : ℕ). take n xs) place ∙ take_all (length xs) xs (omega arith)

pub line_words_again : (word : List ℕ) (ws : List (List ℕ)) → IsPlainWord word → AllByRecursion IsPlainWord ws → words (word ++ behind_spaces ws) ≡ word ∷ ws
line_words_again word ws h hs = ap words_in (all_before (is 35) (word ++ behind_spaces ws) (whole_has_none 35 word ws (omega arith) refl h hs)) ∙ words_again word ws h hs

pub lines_again : (word : List ℕ) (ws : List (List ℕ)) (rest : List ℕ) → IsPlainWord word → AllByRecursion IsPlainWord ws → text_lines ((word ++ (behind_spaces ws ++ codes "\n")) ++ rest) ≡ (word ++ behind_spaces ws) ∷ text_lines rest
lines_again word ws rest h hs =
    let regrouped : (word ++ (behind_spaces ws ++ codes "\n")) ++ rest ≡ (word ++ behind_spaces ws) ++ 10 ∷ rest =
    ap (λ (x : List ℕ). x ++ rest) (sym (append_assoc word (behind_spaces ws) (codes "\n"))) ∙ append_assoc (word ++ behind_spaces ws) (codes "\n") rest in
    ap text_lines regrouped ∙ slice_split_at (is 10) (word ++ behind_spaces ws) 10 rest (whole_has_none 10 word ws (omega arith) refl h hs) refl
