-- Parts of a word that are joined are read again.
use Rattle.std.proofs.Common.{◌≡◌, ℕ, ◌+◌, ◌<◌, ◌≤◌, false, List, [], ◌∷◌, ◌++◌, map, length, take, drop, All, Option, Some, refl, sym, ap, ◌∙◌, append_assoc, arith}
use Rattle.std.specs.List.{slice_split, position_or_len, before_first, after_first, AllByRecursion}
use Rattle.std.proofs.lemmas.Bool.{ne_eqb, eq-eqb}
use Rattle.std.proofs.lemmas.List.{append-nil, length-append, take_at, drop_at, get_or_append_left, get_or_at}
use Rattle.std.proofs.lemmas.List.Elements.{All-from_recursion, All-get_or}
use Rattle.std.proofs.lemmas.List.Splits.{slice_split_at, slice_split_none}
use Rattle.std.proofs.lemmas.List.Sums.{position_or_len_is}
use Rattle.nvm_list.specs.Words.{is}
use Rattle.nvm_list.specs.Commas.{with_part, read_each, read_parts, behind_commas, joined}

-- ---- a part that a byte cuts in two

-- the first of a byte is after what has none of it
place_at : (byte : ℕ) (xs ys : List ℕ) → All (λ b. is byte b ≡ false) xs → position_or_len (is byte) (xs ++ byte ∷ ys) ≡ length xs
place_at byte xs ys h =
    position_or_len_is (is byte) (xs ++ byte ∷ ys) (length xs) 0 (omega (arith, length-append {A = ℕ}))
    (λ k lt. ap (is byte) (get_or_append_left xs (byte ∷ ys) 0 k lt) ∙ All-get_or (λ b. is byte b ≡ false) xs k 0 lt h)
    (λ lt. ap (is byte) (get_or_at xs byte ys 0 (length xs) refl) ∙ eq-eqb byte byte refl)

pub before_at : (byte : ℕ) (xs ys : List ℕ) → All (λ b. is byte b ≡ false) xs → before_first (is byte) (xs ++ byte ∷ ys) ≡ xs
before_at byte xs ys h = ap (λ (n : ℕ). take n (xs ++ byte ∷ ys)) (place_at byte xs ys h) ∙ take_at xs (byte ∷ ys) (length xs) refl

behind_one : (byte : ℕ) (xs ys : List ℕ) → drop (length xs + 1) (xs ++ byte ∷ ys) ≡ ys
behind_one byte xs ys =
    let regrouped : xs ++ byte ∷ ys ≡ (xs ++ byte ∷ []) ++ ys = sym (append_assoc xs (byte ∷ []) ys) in
    let long : length (xs ++ byte ∷ []) ≡ length xs + 1 = omega (arith, length-append xs (byte ∷ [])) in
    ap (drop (length xs + 1)) regrouped ∙ drop_at (xs ++ byte ∷ []) ys (length xs + 1) long

pub after_at : (byte : ℕ) (xs ys : List ℕ) → All (λ b. is byte b ≡ false) xs → after_first (is byte) (xs ++ byte ∷ ys) ≡ ys
after_at byte xs ys h = ap (λ (n : ℕ). drop (n + 1) (xs ++ byte ∷ ys)) (place_at byte xs ys h) ∙ behind_one byte xs ys

pub high_none : (byte : ℕ) (xs : List ℕ) → byte < 48 → AllByRecursion (λ b. 48 ≤ b) xs → AllByRecursion (λ b. is byte b ≡ false) xs
high_none byte [] low h = tt
high_none byte (b ∷ xs) low h = let high : 48 ≤ b = h.0 in (ne_eqb b byte (λ e. absurd (omega arith)), high_none byte xs low h.1)

-- ---- parts that commas join

abbrev pub HasNoComma : List ℕ → Type 0
HasNoComma text = AllByRecursion (λ b. is 44 b ≡ false) text

texts_again : (text : List ℕ) (texts : List (List ℕ)) → HasNoComma text → AllByRecursion HasNoComma texts → slice_split (is 44) (joined (text ∷ texts)) ≡ text ∷ texts
texts_again text [] h hs = ap (slice_split (is 44)) (append-nil text) ∙ slice_split_none (is 44) text (All-from_recursion (λ b. is 44 b ≡ false) text h)
texts_again text (next ∷ texts) h hs =
    slice_split_at (is 44) text 44 (next ++ behind_commas texts) (All-from_recursion (λ b. is 44 b ≡ false) text h) refl
    ∙ ap (λ (ts : List (List ℕ)). text ∷ ts) (texts_again next texts hs.0 hs.1)

module _ {A : Type 0} (text : A → List ℕ) (read : List ℕ → Option A) where
  each_again : (xs : List A) → AllByRecursion (λ x. read (text x) ≡ Some x) xs → read_each read (map text xs) ≡ Some xs
  each_again [] h = refl
  each_again (x ∷ xs) h = ap (λ (p : Option A). with_part p (read_each read (map text xs))) h.0 ∙ ap (λ (ps : Option (List A)). with_part (Some x) ps) (each_again xs h.1)

  pub parts_again : (x : A) (xs : List A) → AllByRecursion HasNoComma (map text (x ∷ xs)) → AllByRecursion (λ x. read (text x) ≡ Some x) (x ∷ xs)
      → read_parts read (joined (map text (x ∷ xs))) ≡ Some (x ∷ xs)
  parts_again x xs h k = ap (read_each read) (texts_again (text x) (map text xs) h.0 h.1) ∙ each_again (x ∷ xs) k
