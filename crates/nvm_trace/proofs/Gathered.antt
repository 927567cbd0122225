-- Steps put at the end, one element after the other.
use Rattle.std.proofs.Common.{◌≡◌, ℕ, ◌+◌, ◌<◌, List, [], ◌∷◌, ◌++◌, length, take, get_or, sym, ap, ◌∙◌}
use Rattle.std.proofs.lemmas.List.{take_more, flat_map_more}
use Rattle.std.specs.List.{flat_map}

module _ {A : Type 0} where
  -- one element more was taken
  pub taken : (xs : List A) (i : ℕ) (x : A) → i < length xs → x ≡ get_or xs i x → take (i + 1) xs ≡ take i xs ++ x ∷ []
  taken xs i x low is = take_more xs i x low ∙ ap (λ (y : A). take i xs ++ y ∷ []) (sym is)

module _ {A B : Type 0} (f : A → List B) where
  -- What one element more gives was put at the end.
  pub flat_taken : (before : List B) (xs : List A) (i : ℕ) (x : A) → i < length xs → x ≡ get_or xs i x
      → (before ++ flat_map f (take i xs)) ++ f x ≡ before ++ flat_map f (take (i + 1) xs)
  flat_taken before xs i x low is = flat_map_more f before (take i xs) x ∙ ap (λ ys. before ++ flat_map f ys) (sym (taken xs i x low is))
