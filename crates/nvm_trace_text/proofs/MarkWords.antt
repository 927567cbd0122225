-- A text of plain words is cut at the first of them that is a mark.
use Rattle.std.proofs.Common.{◌≡◌, ◌≢◌, ℕ, ◌+◌, ◌<◌, ◌≤◌, ◌==◌, ◌||◌, nat_lt, true, false, List, [], ◌∷◌, ◌++◌, length, take, drop, Option, Some, None, refl, sym, ap, ◌∙◌, append_assoc, append-nil, arith}
use Rattle.std.specs.List.{AllByRecursion}
use Rattle.std.proofs.lemmas.Bool.{and_right, and_left, or_from, cond-true, cond-false, lt-ltb, le-ltb, ne_eqb, eq-eqb}
use Rattle.std.proofs.lemmas.List.{length-append, take_at, drop_at, take_all}
use Rattle.nvm_list.specs.Listing.{behind_spaces}
use Rattle.nvm_list.specs.Words.{is, is_blank}
use Rattle.nvm_list.proofs.PlainText.{IsPlain, IsPlainWord, other_byte}
use Rattle.nvm_trace_text.specs.Marks.{is_mark, mark_place, before_mark, behind_mark}

-- the word isn't just this byte
abbrev pub IsNot : ℕ → List ℕ → Type 0
IsNot mark word = word ≢ mark ∷ []

-- a plain word that is not the mark
pub record IsUnmarked (mark : ℕ) (word : List ℕ) : Type 0 where
  pub plain : IsPlainWord word
  pub other : IsNot mark word

pub not_blank : (b : ℕ) → IsPlain b → is_blank b ≡ false
not_blank b high = or_from (is 32 b || is 9 b) (is 13 b) (or_from (is 32 b) (is 9 b) (other_byte b 32 (omega arith) high) (other_byte b 9 (omega arith) high)) (other_byte b 13 (omega arith) high)

-- ---- where no mark stands

inside_none : (mark b : ℕ) (bytes : List ℕ) → is_blank b ≡ false → is_mark mark (b ∷ bytes) ≡ false
inside_none mark b bytes h =
    and_right (nat_lt 1 (length (b ∷ bytes))) _ (and_left (is_blank b) _ h)

past_one : (mark b : ℕ) (bytes : List ℕ) → is_mark mark (b ∷ bytes) ≡ false → mark_place mark (b ∷ bytes) ≡ 1 + mark_place mark bytes
past_one mark b bytes h = cond-false (is_mark mark (b ∷ bytes)) 0 (1 + mark_place mark bytes) h

pub past_word : (mark : ℕ) (word tail : List ℕ) → AllByRecursion IsPlain word → mark_place mark (word ++ tail) ≡ length word + mark_place mark tail
past_word mark [] tail h = sym (omega arith)
past_word mark (b ∷ word) tail h =
    let here : mark_place mark (b ∷ (word ++ tail)) ≡ 1 + mark_place mark (word ++ tail) = past_one mark b (word ++ tail) (inside_none mark b (word ++ tail) (not_blank b h.0)) in
    let more : mark_place mark (word ++ tail) ≡ length word + mark_place mark tail = past_word mark word tail h.1 in
    omega (arith, here, more)

-- a word that isn't the mark, behind a space
other_none : (mark : ℕ) (word tail : List ℕ) → IsUnmarked mark word → is_mark mark (32 ∷ (word ++ tail)) ≡ false
other_none mark [] tail h = let some = h.plain.some in absurd (omega arith)
other_none mark (b ∷ []) tail h =
    and_right (nat_lt 1 (length (32 ∷ b ∷ tail))) _ (and_left (b == mark) _ (ne_eqb b mark (λ e. h.other (ap (λ (x : ℕ). x ∷ []) e))))
other_none mark (b ∷ c ∷ word) tail h =
    let long : (length (32 ∷ b ∷ c ∷ (word ++ tail)) == 2) ≡ false = ne_eqb (length (32 ∷ b ∷ c ∷ (word ++ tail))) 2 (λ e. absurd (omega (arith, e))) in
    and_right (nat_lt 1 (length (32 ∷ b ∷ c ∷ (word ++ tail)))) _ (and_right (b == mark) _ (or_from _ _ long (not_blank c h.plain.plain.1.0)))

pub past_words : (mark : ℕ) (ws : List (List ℕ)) (tail : List ℕ) → AllByRecursion (IsUnmarked mark) ws
    → mark_place mark (behind_spaces ws ++ tail) ≡ length (behind_spaces ws) + mark_place mark tail
past_words mark [] tail h = sym (omega arith)
past_words mark (word ∷ ws) tail h =
    let group : (word ++ behind_spaces ws) ++ tail ≡ word ++ (behind_spaces ws ++ tail) = append_assoc word (behind_spaces ws) tail in
    let all : mark_place mark (32 ∷ ((word ++ behind_spaces ws) ++ tail)) ≡ mark_place mark (32 ∷ (word ++ (behind_spaces ws ++ tail))) = ap (λ (x : List ℕ). mark_place mark (32 ∷ x)) group in
    let here : mark_place mark (32 ∷ (word ++ (behind_spaces ws ++ tail))) ≡ 1 + mark_place mark (word ++ (behind_spaces ws ++ tail)) = past_one mark 32 (word ++ (behind_spaces ws ++ tail)) (other_none mark word (behind_spaces ws ++ tail) h.0) in
    let next : mark_place mark (word ++ (behind_spaces ws ++ tail)) ≡ length word + mark_place mark (behind_spaces ws ++ tail) = past_word mark word (behind_spaces ws ++ tail) h.0.plain.plain in
    let more : mark_place mark (behind_spaces ws ++ tail) ≡ length (behind_spaces ws) + mark_place mark tail = past_words mark ws tail h.1 in
    let long : length (word ++ behind_spaces ws) ≡ length word + length (behind_spaces ws) = length-append word (behind_spaces ws) in
    omega (arith, all, here, next, more, long)

-- ---- the cut

-- what is before the mark, and what is behind it
pub record IsCut (mark : ℕ) (text front : List ℕ) (behind : Option (List ℕ)) : Type 0 where
  pub before : before_mark mark text ≡ front
  pub after : behind_mark mark text ≡ behind

pub cut_none : (mark : ℕ) (word : List ℕ) (ws : List (List ℕ)) → AllByRecursion IsPlain word → AllByRecursion (IsUnmarked mark) ws
    → IsCut mark (word ++ behind_spaces ws) (word ++ behind_spaces ws) None
cut_none mark word ws h hs =
    let text = word ++ behind_spaces ws in
    let first : mark_place mark (word ++ behind_spaces ws) ≡ length word + mark_place mark (behind_spaces ws) = past_word mark word (behind_spaces ws) h in
    let same : mark_place mark (behind_spaces ws ++ []) ≡ mark_place mark (behind_spaces ws) = ap (mark_place mark) (append-nil (behind_spaces ws)) in
    let rest : mark_place mark (behind_spaces ws ++ []) ≡ length (behind_spaces ws) + 0 = past_words mark ws [] hs in
    let long : length (word ++ behind_spaces ws) ≡ length word + length (behind_spaces ws) = length-append word (behind_spaces ws) in
    let place : mark_place mark (word ++ behind_spaces ws) ≡ length (word ++ behind_spaces ws) = omega (arith, first, same, rest, long) in
    let le : length (word ++ behind_spaces ws) ≤ mark_place mark (word ++ behind_spaces ws) = omega (arith, place) in
    record {
      before = take_all (mark_place mark text) text le;
      after = cond-false (nat_lt (mark_place mark text) (length text)) _ None (le-ltb (mark_place mark text) (length text) le);
    }

mark_here : (mark : ℕ) (bytes : List ℕ) → is_mark mark (32 ∷ mark ∷ 32 ∷ bytes) ≡ true
mark_here mark bytes =
    let long : nat_lt 1 (length (32 ∷ mark ∷ 32 ∷ bytes)) ≡ true = lt-ltb 1 (length (32 ∷ mark ∷ 32 ∷ bytes)) (omega arith) in
    let other : (length (32 ∷ mark ∷ 32 ∷ bytes) == 2) ≡ false = ne_eqb (length (32 ∷ mark ∷ 32 ∷ bytes)) 2 (λ e. absurd (omega (arith, e))) in
    let same : (mark == mark) ≡ true = eq-eqb mark mark refl in
    rw (long, other, same) refl

pub cut_here : (mark : ℕ) (word : List ℕ) (ws : List (List ℕ)) (rest : List ℕ) → AllByRecursion IsPlain word → AllByRecursion (IsUnmarked mark) ws
    → IsCut mark ((word ++ behind_spaces ws) ++ 32 ∷ mark ∷ 32 ∷ rest) (word ++ behind_spaces ws) (Some (32 ∷ rest))
cut_here mark word ws rest h hs =
    let front = word ++ behind_spaces ws in
    let tail = 32 ∷ mark ∷ 32 ∷ rest in
    let group : (word ++ behind_spaces ws) ++ tail ≡ word ++ (behind_spaces ws ++ tail) = append_assoc word (behind_spaces ws) tail in
    let all : mark_place mark (front ++ tail) ≡ mark_place mark (word ++ (behind_spaces ws ++ tail)) = ap (mark_place mark) group in
    let first : mark_place mark (word ++ (behind_spaces ws ++ tail)) ≡ length word + mark_place mark (behind_spaces ws ++ tail) = past_word mark word (behind_spaces ws ++ tail) h in
    let next : mark_place mark (behind_spaces ws ++ tail) ≡ length (behind_spaces ws) + mark_place mark tail = past_words mark ws tail hs in
    let none : mark_place mark tail ≡ 0 = cond-true (is_mark mark tail) 0 (1 + mark_place mark (mark ∷ 32 ∷ rest)) (mark_here mark rest) in
    let long : length front ≡ length word + length (behind_spaces ws) = length-append word (behind_spaces ws) in
    let whole : length (front ++ tail) ≡ length front + length tail = length-append front tail in
    let place : mark_place mark (front ++ tail) ≡ length front = omega (arith, all, first, next, none, long) in
    let inside : mark_place mark (front ++ tail) < length (front ++ tail) = omega (arith, place, whole) in
    let regrouped : front ++ tail ≡ (front ++ 32 ∷ mark ∷ []) ++ 32 ∷ rest = sym (append_assoc front (32 ∷ mark ∷ []) (32 ∷ rest)) in
    let two : length (front ++ 32 ∷ mark ∷ []) ≡ length front + 2 = length-append front (32 ∷ mark ∷ []) in
    let dropped : drop (length front + 2) (front ++ tail) ≡ 32 ∷ rest = ap (drop (length front + 2)) regrouped ∙ drop_at (front ++ 32 ∷ mark ∷ []) (32 ∷ rest) (length front + 2) two in
    record {
      before = ap (λ (n : ℕ). take n (front ++ tail)) place ∙ take_at front tail (length front) refl;
      after =
          cond-true (nat_lt (mark_place mark (front ++ tail)) (length (front ++ tail))) (Some (drop (mark_place mark (front ++ tail) + 2) (front ++ tail))) None
          (lt-ltb (mark_place mark (front ++ tail)) (length (front ++ tail)) inside)
          ∙ ap (λ (n : ℕ). Some (drop (n + 2) (front ++ tail))) place
          ∙ ap (λ (x : List ℕ). Some x) dropped;
    }
