-- Reading items one after the other, as a loop does.
use Rattle.std.proofs.Common.{◌≡◌, ◌⊎◌, ℕ, suc, ◌-◌, ◌+◌, ◌<◌, List, [], ◌∷◌, ◌++◌, Result, Ok, Err, inl, inr, refl, sym, ap, ◌∙◌, append-nil, arith}
use Rattle.std.proofs.lemmas.List.{append_assoc}
use Rattle.nvm_file.specs.Fields.{◌>>=◌, items_at}

-- what was read before, and what is still read
abbrev with_front : {A E : Type 0} → List A → Result (List A × List ℕ) E → Result (List A × List ℕ) E
with_front front read = read >>= λ x. Ok (front ++ x.0, x.1)

module _ {A E : Type 0} (item : ℕ → List ℕ → Result (A × List ℕ) E) (count : ℕ) (from : List ℕ) where
  -- These are the items before this place, and what follows them is left.
  abbrev pub HasRead : List A → ℕ → List ℕ → Type 0
  HasRead front place left = items_at item 0 count from ≡ with_front front (items_at item place (count - place) left)

module _ {A E : Type 0} (item : ℕ → List ℕ → Result (A × List ℕ) E) (count : ℕ) (from : List ℕ) where
  pub begun : HasRead item count from [] 0 from
  begun =
      let all : count - 0 ≡ count = omega arith in
      rw all (by (items_at item 0 count from))
    where
      by : (r : Result (List A × List ℕ) E) → r ≡ with_front [] r
      by (Ok y) = refl
      by (Err e) = refl

  pub one_more : (front : List A) (place : ℕ) (left : List ℕ) (x : A) (after : List ℕ) → HasRead item count from front place left
      → place < count → item place left ≡ Ok (x, after) → HasRead item count from (front ++ x ∷ []) (place + 1) after
  unfolding items_at
  one_more front place left x after before more is =
      let some : count - place ≡ suc (count - (place + 1)) = omega (arith, more) in
      before ∙ (rw (some, is) (by (items_at item (place + 1) (count - (place + 1)) after)))
    where
      by : (r : Result (List A × List ℕ) E)
          → with_front front (r >>= λ y. Ok (x ∷ y.0, y.1)) ≡ with_front (front ++ x ∷ []) r
      by (Ok y) = ap (λ xs. Ok (xs, y.1)) (sym (append_assoc front (x ∷ []) y.0))
      by (Err e) = refl

  pub failed : {X : Type 0} (front : List A) (place : ℕ) (left : List ℕ) (e : E) → HasRead item count from front place left → place < count
      → (item place left ≡ Err e) ⊎ X → (items_at item 0 count from ≡ Err e) ⊎ X
  unfolding items_at
  failed front place left e before more (inr why) = inr why
  failed front place left e before more (inl is) =
      let some : count - place ≡ suc (count - (place + 1)) = omega (arith, more) in
      inl (before ∙ (rw (some, is) refl))

  pub ended : (front : List A) (place : ℕ) (left : List ℕ) → HasRead item count from front place left → place ≡ count
      → items_at item 0 count from ≡ Ok (front, left)
  unfolding items_at
  ended front place left before all =
      let none : count - place ≡ 0 = omega (arith, all) in
      before ∙ (rw none (ap (λ xs. Ok (xs, left)) (append-nil front)))
