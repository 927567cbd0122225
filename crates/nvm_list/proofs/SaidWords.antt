-- What a line says has the line's words.
use Rattle.std.proofs.Common.{◌≡◌, ℕ, zero, suc, ◌<◌, ◌≤◌, get_or, take, not, true, false, List, [], ◌∷◌, ◌++◌, length, reverse, refl, sym, ap, ◌∙◌, subst, arith, inl, inr}
use Rattle.std.specs.List.{slice_split, onto_first, before_first, position_or_len, filter, AllByRecursion}
use Rattle.std.proofs.lemmas.Bool.{cases_Bool, lt-ltb}
use Rattle.std.proofs.lemmas.List.{append-nil, reverse-append, reverse-reverse}
use Rattle.std.proofs.lemmas.List.Elements.{All-from_recursion, filter-append}
use Rattle.std.proofs.lemmas.List.Splits.{slice_split-cons_yes, slice_split-cons_no, length-slice_split}
use Rattle.std.proofs.lemmas.List.Sums.{fails_before_first, prefix_len-le-length}
use Rattle.nvm_list.specs.Words.{is, is_blank, is_word, words_in, words}
use Rattle.nvm_list.specs.Said.{without_blanks_before, without_blanks_behind, said}
use Rattle.nvm_list.proofs.Cutting.{blank_dropped, word_kept}
use Rattle.nvm_list.proofs.PlainText.{all_before, both}

-- ---- a blank at the end parts off an empty part

onto_front : (x : ℕ) (parts more : List (List ℕ)) → 0 < length parts → onto_first x (parts ++ more) ≡ onto_first x parts ++ more
onto_front x [] more some = absurd (omega arith)
onto_front x (part ∷ parts) more some = refl

split_behind : (bytes : List ℕ) (b : ℕ) → is_blank b ≡ true → slice_split is_blank (bytes ++ b ∷ []) ≡ slice_split is_blank bytes ++ [] ∷ []
split_behind [] b blank = slice_split-cons_yes is_blank b [] blank
split_behind (x ∷ bytes) b blank =
    let rest = split_behind bytes b blank in
    let some : 0 < length (slice_split is_blank bytes) = omega (arith, length-slice_split is_blank bytes) in
    elim (cases_Bool (is_blank x)) [
      | inl e ↦ slice_split-cons_yes is_blank x (bytes ++ b ∷ []) e ∙ ap (λ (ps : List (List ℕ)). [] ∷ ps) rest
          ∙ ap (λ (ps : List (List ℕ)). ps ++ [] ∷ []) (sym (slice_split-cons_yes is_blank x bytes e))
      | inr e ↦ slice_split-cons_no is_blank x (bytes ++ b ∷ []) e ∙ ap (onto_first x) rest
          ∙ onto_front x (slice_split is_blank bytes) ([] ∷ []) some
          ∙ ap (λ (ps : List (List ℕ)). ps ++ [] ∷ []) (sym (slice_split-cons_no is_blank x bytes e))
    ]

blank_behind : (bytes : List ℕ) (b : ℕ) → is_blank b ≡ true → words_in (bytes ++ b ∷ []) ≡ words_in bytes
blank_behind bytes b blank =
    ap (λ (ps : List (List ℕ)). filter is_word ps) (split_behind bytes b blank)
    ∙ filter-append is_word (slice_split is_blank bytes) ([] ∷ []) ∙ append-nil (words_in bytes)

-- ---- blanks at either end

stays : (b : ℕ) (bytes : List ℕ) → is_blank b ≡ false → without_blanks_before (b ∷ bytes) ≡ b ∷ bytes
stays b bytes e = rw e refl

front_words : (bytes : List ℕ) → words_in (without_blanks_before bytes) ≡ words_in bytes
front_words [] = refl
front_words (b ∷ bytes) =
    elim (cases_Bool (is_blank b)) [ inl e ↦ rw e (front_words bytes) | inr e ↦ ap words_in (stays b bytes e) ]

reversed_words : (bytes : List ℕ) → words_in (reverse (without_blanks_before bytes)) ≡ words_in (reverse bytes)
reversed_words [] = refl
reversed_words (b ∷ bytes) =
    let last : reverse (b ∷ bytes) ≡ reverse bytes ++ b ∷ [] = reverse-append (b ∷ []) bytes in
    elim (cases_Bool (is_blank b)) [
      | inl e ↦ rw e (reversed_words bytes ∙ sym (blank_behind (reverse bytes) b e) ∙ ap words_in (sym last))
      | inr e ↦ rw e refl
    ]

behind_words : (bytes : List ℕ) → words_in (without_blanks_behind bytes) ≡ words_in bytes
behind_words bytes = reversed_words (reverse bytes) ∙ ap words_in (reverse-reverse bytes)

-- ---- no comment begins in what is said

abbrev HasNone : List ℕ → Type 0
HasNone bytes = AllByRecursion (λ b. is 35 b ≡ false) bytes

none_taken : (n : ℕ) (line : List ℕ) → ((k : ℕ) → k < n → is 35 (get_or line k 0) ≡ false) → n ≤ length line → HasNone (take n line)
none_taken zero line each within = tt
none_taken (suc n) [] each within = tt
none_taken (suc n) (b ∷ line) each within = (each 0 (omega arith), none_taken n line (λ k lt. each (suc k) (omega arith)) (omega arith))

none_before : (line : List ℕ) → HasNone (before_first (is 35) line)
none_before line =
    none_taken (position_or_len (is 35) line) line (λ k lt. fails_before_first (is 35) line k 0 lt)
    (prefix_len-le-length (λ b. not (is 35 b)) line)

none_in_front : (bytes : List ℕ) → HasNone bytes → HasNone (without_blanks_before bytes)
none_in_front [] h = tt
none_in_front (b ∷ bytes) h = elim (cases_Bool (is_blank b)) [ inl e ↦ rw e (none_in_front bytes h.1) | inr e ↦ rw e h ]

none_reversed : (bytes : List ℕ) → HasNone bytes → HasNone (reverse bytes)
none_reversed [] h = tt
none_reversed (b ∷ bytes) h =
    let last : reverse (b ∷ bytes) ≡ reverse bytes ++ b ∷ [] = reverse-append (b ∷ []) bytes in
    subst HasNone (sym last) (both (λ c. is 35 c ≡ false) (reverse bytes) (b ∷ []) (none_reversed bytes h.1) (h.0, tt))

none_said : (line : List ℕ) → HasNone (said line)
none_said line =
    let front = without_blanks_before (before_first (is 35) line) in
    none_reversed (without_blanks_before (reverse front))
    (none_in_front (reverse front) (none_reversed front (none_in_front (before_first (is 35) line) (none_before line))))

pub said_words : (line : List ℕ) → words (said line) ≡ words line
said_words line =
    ap words_in (all_before (is 35) (said line) (All-from_recursion (λ b. is 35 b ≡ false) (said line) (none_said line)))
    ∙ behind_words (without_blanks_before (before_first (is 35) line)) ∙ front_words (before_first (is 35) line)

-- ---- a line says nothing exactly where it has no words

word_lost : (word : List ℕ) (parts : List (List ℕ)) → 0 < length word → filter is_word (word ∷ parts) ≡ [] → ⊥
word_lost word parts some none =
    let long : suc (length (filter is_word parts)) ≡ 0 = ap length (sym (word_kept word parts some) ∙ none) in omega arith

first_kept : (b : ℕ) (parts : List (List ℕ)) → filter is_word (onto_first b parts) ≡ [] → ⊥
first_kept b [] none = word_lost (b ∷ []) [] (omega arith) none
first_kept b (part ∷ parts) none = word_lost (b ∷ part) parts (omega arith) none

word_there : (b : ℕ) (bytes : List ℕ) → is_blank b ≡ false → words_in (b ∷ bytes) ≡ [] → ⊥
word_there b bytes e none =
    first_kept b (slice_split is_blank bytes)
    (ap (λ (ps : List (List ℕ)). filter is_word ps) (sym (slice_split-cons_no is_blank b bytes e)) ∙ none)

no_first : (bytes : List ℕ) → words_in bytes ≡ [] → without_blanks_before bytes ≡ []
no_first [] none = refl
no_first (b ∷ bytes) none =
    elim (cases_Bool (is_blank b)) [
      | inl e ↦ rw e (no_first bytes (sym (blank_dropped b bytes e) ∙ none))
      | inr e ↦ absurd (word_there b bytes e none)
    ]

pub nothing_said : (line : List ℕ) → words line ≡ [] → said line ≡ []
nothing_said line none = ap (λ (bytes : List ℕ). without_blanks_behind bytes) (no_first (before_first (is 35) line) none)

some_bytes : (bytes word : List ℕ) (ws : List (List ℕ)) → words bytes ≡ word ∷ ws → is_word bytes ≡ true
some_bytes [] word ws h = absurd cc
some_bytes (b ∷ bytes) word ws h = lt-ltb 0 (length (b ∷ bytes)) (omega arith)

pub something_said : (line word : List ℕ) (ws : List (List ℕ)) → words line ≡ word ∷ ws → is_word (said line) ≡ true
something_said line word ws h = some_bytes (said line) word ws (said_words line ∙ h)
