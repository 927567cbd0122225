-- Lists that are read by place.
use Rattle.std.proofs.Common.{◌≡◌, ◌≢◌, ◌⊎◌, ℕ, zero, suc, ◌+◌, ◌<◌, List, [], ◌∷◌, ◌++◌, length, map, drop, get_or, set, refl, sym, ap, ◌∙◌, arith, inl, inr}
use mathlib.Core.Option.{some, some-injective, some-ne-none}
use lib.ListN.{get_elem?}
use Rattle.nvm_record.specs.Lists.{IsAt}

module _ {A : Type 0} where
  -- One thing is at a place.
  pub at_one : (xs : List A) (i : ℕ) (x y : A) → IsAt xs i x → IsAt xs i y → x ≡ y
  at_one xs i x y e f = some-injective x y (sym e ∙ f)

  pub at_below : (xs : List A) (i : ℕ) (x : A) → IsAt xs i x → i < length xs
  at_below [] i x e = absurd (some-ne-none x (sym e))
  at_below (y ∷ ys) zero x e = omega arith
  at_below (y ∷ ys) (suc i) x e = let h = at_below ys i x e in omega arith

  pub at_some : (xs : List A) (i : ℕ) → i < length xs → (x : A) × IsAt xs i x
  at_some [] i lt = absurd (omega arith)
  at_some (x ∷ xs) zero lt = (x, refl)
  at_some (x ∷ xs) (suc i) lt = at_some xs i (omega arith)

  pub at_index : (xs : List A) (i : ℕ) (x : A) → i < length xs → x ≡ get_or xs i x → IsAt xs i x
  at_index [] i x lt e = absurd (omega arith)
  at_index (y ∷ ys) zero x lt e = ap some (sym e)
  at_index (y ∷ ys) (suc i) x lt e = at_index ys i x (omega arith) e

  pub index_at : (xs : List A) (i : ℕ) (x d : A) → IsAt xs i x → get_or xs i d ≡ x
  index_at [] i x d e = absurd (some-ne-none x (sym e))
  index_at (y ∷ ys) zero x d e = some-injective y x e
  index_at (y ∷ ys) (suc i) x d e = index_at ys i x d e

  pub at_set : (xs : List A) (i j : ℕ) (x y : A) → IsAt (set xs i x) j y → ((j ≡ i) × (y ≡ x)) ⊎ ((j ≢ i) × IsAt xs j y)
  at_set [] i j x y e = absurd (some-ne-none y (sym e))
  at_set (z ∷ zs) zero zero x y e = inl (refl, sym (some-injective x y e))
  at_set (z ∷ zs) zero (suc j) x y e = inr ((λ h. omega arith), e)
  at_set (z ∷ zs) (suc i) zero x y e = inr ((λ h. omega arith), e)
  at_set (z ∷ zs) (suc i) (suc j) x y e =
      elim (at_set zs i j x y e) [
        | inl here ↦ inl (ap suc here.0, here.1)
        | inr there ↦ let n = there.0 in inr ((λ h. n (omega arith)), there.1)
      ]

  pub set_here : (xs : List A) (i : ℕ) (x : A) → i < length xs → IsAt (set xs i x) i x
  set_here [] i x h = absurd (omega arith)
  set_here (y ∷ ys) zero x h = refl
  set_here (y ∷ ys) (suc i) x h = set_here ys i x (omega arith)

  pub set_else : (xs : List A) (i j : ℕ) (x : A) → j ≢ i → get_elem? (set xs i x) j ≡ get_elem? xs j
  set_else [] i j x n = refl
  set_else (y ∷ ys) zero zero x n = absurd (n refl)
  set_else (y ∷ ys) zero (suc j) x n = refl
  set_else (y ∷ ys) (suc i) zero x n = refl
  set_else (y ∷ ys) (suc i) (suc j) x n = set_else ys i j x (λ e. n (ap suc e))

  pub at_longer : (xs ys : List A) (i : ℕ) (x : A) → IsAt xs i x → IsAt (xs ++ ys) i x
  at_longer [] ys i x e = absurd (some-ne-none x (sym e))
  at_longer (z ∷ zs) ys zero x e = e
  at_longer (z ∷ zs) ys (suc i) x e = at_longer zs ys i x e

  pub at_last : (xs : List A) (x : A) → IsAt (xs ++ x ∷ []) (length xs) x
  at_last [] x = refl
  at_last (z ∷ zs) x = at_last zs x

  -- What is in a list with one thing more is in it, or is that.
  pub at_more : (xs : List A) (x : A) (i : ℕ) (y : A) → IsAt (xs ++ x ∷ []) i y → IsAt xs i y ⊎ ((i ≡ length xs) × (y ≡ x))
  at_more [] x zero y e = inr (refl, sym (some-injective x y e))
  at_more [] x (suc i) y e = absurd (some-ne-none y (sym e))
  at_more (z ∷ zs) x zero y e = inl e
  at_more (z ∷ zs) x (suc i) y e =
      elim (at_more zs x i y e) [
        | inl there ↦ inl there
        | inr last ↦ inr (ap suc last.0, last.1)
      ]

  -- what is left from a place on begins with what is there
  pub drop_here : (xs : List A) (i : ℕ) (x : A) (rest : List A) → drop i xs ≡ x ∷ rest → IsAt xs i x
  drop_here [] zero x rest e = absurd (cc e)
  drop_here [] (suc i) x rest e = absurd (cc e)
  drop_here (y ∷ ys) zero x rest e = ap (λ (zs : List A). get_elem? zs 0) e
  drop_here (y ∷ ys) (suc i) x rest e = drop_here ys i x rest e

  pub drop_next : (xs : List A) (i : ℕ) (x : A) (rest : List A) → drop i xs ≡ x ∷ rest → drop (i + 1) xs ≡ rest
  drop_next [] zero x rest e = absurd (cc e)
  drop_next [] (suc i) x rest e = absurd (cc e)
  drop_next (y ∷ ys) zero x rest e = ap (λ (zs : List A). drop 1 zs) e
  drop_next (y ∷ ys) (suc i) x rest e = let n : suc i + 1 ≡ suc (i + 1) = omega arith in rw n (drop_next ys i x rest e)

  pub at_map : {B : Type 0} (f : A → B) (xs : List A) (i : ℕ) (x : A) → IsAt xs i x → IsAt (map f xs) i (f x)
  at_map f [] i x e = absurd (some-ne-none x (sym e))
  at_map f (y ∷ ys) zero x e = ap (λ (z : A). some (f z)) (some-injective y x e)
  at_map f (y ∷ ys) (suc i) x e = at_map f ys i x e

  pub at_map_back : {B : Type 0} (f : A → B) (xs : List A) (i : ℕ) (y : B) → IsAt (map f xs) i y → (x : A) × IsAt xs i x × (y ≡ f x)
  at_map_back f [] i y e = absurd (some-ne-none y (sym e))
  at_map_back f (x ∷ xs) zero y e = (x, refl, sym (some-injective (f x) y e))
  at_map_back f (x ∷ xs) (suc i) y e = at_map_back f xs i y e

  pub map_more : {B : Type 0} (f : A → B) (xs : List A) (x : A) → map f (xs ++ x ∷ []) ≡ map f xs ++ f x ∷ []
  map_more f [] x = refl
  map_more {B = B} f (y ∷ ys) x = ap (λ (zs : List B). f y ∷ zs) (map_more f ys x)
