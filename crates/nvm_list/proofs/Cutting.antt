-- A text is cut at the first byte that ends a part, and words at blanks.
use Rattle.std.proofs.Common.{◌≡◌, ℕ, ◌+◌, ◌<◌, ◌≤◌, Bool, true, false, List, [], ◌∷◌, length, take, drop, get_or, All, refl, sym, ap, ◌∙◌, subst, arith, inl, inr}
use Rattle.std.specs.List.{slice_split, position_or_len, filter}
use Rattle.std.proofs.lemmas.Bool.{lt-ltb, ltb-true, cases_lt}
use Rattle.std.proofs.lemmas.List.{drop_more, drop_all, take_all, length-take-le}
use Rattle.std.proofs.lemmas.List.Elements.{All-from_get_or, All-head, filter_passes}
use Rattle.std.proofs.lemmas.List.Splits.{slice_split_first, slice_split_none, slice_split-cons_yes}
use Rattle.std.proofs.lemmas.List.Sums.{position_or_len_is, fails_before_first, passes_at_first}
use Rattle.nvm_list.specs.Words.{is_blank, is_word, words_in, first, others}
use Rattle.nvm_list.specs.Rest.{IsAtWord}

-- No byte before place n ends the part, and the one there, if there is one, does.
pub record IsEnd (p : ℕ → Bool) (bytes : List ℕ) (n : ℕ) : Type 0 where
  pub within : n ≤ length bytes
  pub others : (k : ℕ) → k < n → p (get_or bytes k 0) ≡ false
  pub here : n < length bytes → p (get_or bytes n 0) ≡ true

pub end_is : (p : ℕ → Bool) (bytes : List ℕ) (n : ℕ) → IsEnd p bytes n → n ≡ position_or_len p bytes
end_is p bytes n h = sym (position_or_len_is p bytes n 0 h.within h.others h.here)

pub cut_inside : (p : ℕ → Bool) (bytes : List ℕ) (n : ℕ) → n ≡ position_or_len p bytes → n < length bytes → slice_split p bytes ≡ take n bytes ∷ slice_split p (drop (n + 1) bytes)
cut_inside p bytes n e lt =
    subst (λ (k : ℕ). slice_split p bytes ≡ take k bytes ∷ slice_split p (drop (k + 1) bytes)) (sym e) (slice_split_first p bytes 0 (subst (λ (k : ℕ). k < length bytes) e lt))

pub cut_at_end : (p : ℕ → Bool) (bytes : List ℕ) (n : ℕ) → n ≡ position_or_len p bytes → length bytes ≤ n → slice_split p bytes ≡ bytes ∷ []
cut_at_end p bytes n e le = slice_split_none p bytes (All-from_get_or (λ x. p x ≡ false) bytes 0 (λ i lt. fails_before_first p bytes i 0 (subst (λ (k : ℕ). i < k) e (omega arith))))

pub word_kept : (word : List ℕ) (parts : List (List ℕ)) → 0 < length word → filter is_word (word ∷ parts) ≡ word ∷ filter is_word parts
word_kept word parts h = rw (lt-ltb 0 (length word) h) refl

pub blank_dropped : (b : ℕ) (bytes : List ℕ) → is_blank b ≡ true → words_in (b ∷ bytes) ≡ words_in bytes
blank_dropped b bytes h = ap (λ (parts : List (List ℕ)). filter is_word parts) (slice_split-cons_yes is_blank b bytes h)

-- the words of a text whose first word has n bytes
pub record IsWordOf (text : List ℕ) (n : ℕ) : Type 0 where
  pub word : take n text ≡ first (words_in text)
  pub behind : words_in (drop n text) ≡ others (words_in text)

word_inside : (text : List ℕ) (n : ℕ) → n ≡ position_or_len is_blank text → 0 < n → n < length text → IsWordOf text n
word_inside text n e some lt =
    let parts : slice_split is_blank text ≡ take n text ∷ slice_split is_blank (drop (n + 1) text) = cut_inside is_blank text n e lt in
    let long : length (take n text) ≡ n = length-take-le n text (omega arith) in
    let whole : words_in text ≡ take n text ∷ words_in (drop (n + 1) text) = ap (λ (ps : List (List ℕ)). filter is_word ps) parts ∙ word_kept (take n text) (slice_split is_blank (drop (n + 1) text)) (omega arith) in
    let blank : is_blank (get_or text n 0) ≡ true = subst (λ (k : ℕ). is_blank (get_or text k 0) ≡ true) (sym e) (passes_at_first is_blank text 0 (subst (λ (k : ℕ). k < length text) e lt)) in
    let rest : words_in (drop n text) ≡ words_in (drop (n + 1) text) = ap words_in (drop_more text n 0 lt) ∙ blank_dropped (get_or text n 0) (drop (n + 1) text) blank in
    record {
      word = sym (ap first whole);
      behind = rest ∙ sym (ap others whole);
    }

word_at_end : (text : List ℕ) (n : ℕ) → n ≡ position_or_len is_blank text → 0 < n → length text ≤ n → n ≤ length text → IsWordOf text n
word_at_end text n e some le ge =
    let whole : words_in text ≡ text ∷ [] = ap (λ (ps : List (List ℕ)). filter is_word ps) (cut_at_end is_blank text n e le) ∙ word_kept text [] (omega arith) in
    let all : take n text ≡ text = take_all n text le in
    let none : drop n text ≡ [] = drop_all n text le in
    record {
      word = all ∙ sym (ap first whole);
      behind = ap words_in none ∙ sym (ap others whole);
    }

word_by_place : (text : List ℕ) (n : ℕ) → n ≡ position_or_len is_blank text → 0 < n → n ≤ length text → IsWordOf text n
word_by_place text n e some within =
    elim (cases_lt n (length text)) [ inl lt ↦ word_inside text n e some lt | inr le ↦ word_at_end text n e some le within ]

pub word_of : (text : List ℕ) (n : ℕ) → IsAtWord text → n ≡ position_or_len is_blank text → n ≤ length text → IsWordOf text n
word_of [] n h e within = let none : n ≡ 0 = e in subst (λ (k : ℕ). IsWordOf [] k) (sym none) (record { word = refl; behind = refl })
word_of (b ∷ text) n h e within =
    let long : position_or_len is_blank (b ∷ text) ≡ 1 + position_or_len is_blank text = rw h refl in
    word_by_place (b ∷ text) n e (omega arith) within

first_some : (words : List (List ℕ)) → 0 < length (first words) → words ≡ first words ∷ others words
first_some [] h = absurd (omega arith)
first_some (word ∷ words) h = refl

first_none : (words : List (List ℕ)) → All (λ (w : List ℕ). is_word w ≡ true) words → length (first words) ≡ 0 → words ≡ []
first_none [] all h = refl
first_none (word ∷ words) all h = let some : 0 < length word = ltb-true 0 (length word) (All-head (λ (w : List ℕ). is_word w ≡ true) word words all) in absurd (omega arith)

pub some_word : (word text rest : List ℕ) → word ≡ first (words_in text) → words_in rest ≡ others (words_in text) → 0 < length word → words_in text ≡ word ∷ words_in rest
some_word word text rest here behind some =
    first_some (words_in text) (subst (λ (w : List ℕ). 0 < length w) here some) ∙ ap (λ (w : List ℕ). w ∷ others (words_in text)) (sym here) ∙ ap (λ (ws : List (List ℕ)). word ∷ ws) (sym behind)

pub no_word : (word text : List ℕ) → word ≡ first (words_in text) → length word ≡ 0 → words_in text ≡ []
no_word word text here none = first_none (words_in text) (filter_passes is_word (slice_split is_blank text)) (ap length (sym here) ∙ none)
