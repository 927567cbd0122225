-- Lists that are read by place, and what holds of all their elements.
use Rattle.std.proofs.Common.{◌≡◌, ℕ, zero, suc, ◌<◌, List, [], ◌∷◌, length, map, replicate, get_or, subst, refl, sym, ap, ◌∙◌, arith, All, AllPairs}
use Rattle.std.specs.List.{zip}
use mathlib.Core.Option.{some, some-injective, some-ne-none}
use Rattle.nvm_record.specs.Lists.{IsAt}

module _ {A : Type 0} where
  pub at_below : (xs : List A) (i : ℕ) (x : A) → IsAt xs i x → i < length xs
  at_below [] i x e = absurd (some-ne-none x (sym e))
  at_below (y ∷ ys) zero x e = omega arith
  at_below (y ∷ ys) (suc i) x e = let h = at_below ys i x e in omega arith

  pub at_read : (xs : List A) (i : ℕ) (x d : A) → IsAt xs i x → get_or xs i d ≡ x
  at_read [] i x d e = absurd (some-ne-none x (sym e))
  at_read (y ∷ ys) zero x d e = some-injective y x e
  at_read (y ∷ ys) (suc i) x d e = at_read ys i x d e

  pub at_index : (xs : List A) (i : ℕ) (x : A) → i < length xs → x ≡ get_or xs i x → IsAt xs i x
  at_index [] i x lt e = absurd (omega arith)
  at_index (y ∷ ys) zero x lt e = ap some (sym e)
  at_index (y ∷ ys) (suc i) x lt e = at_index ys i x (omega arith) e

  pub at_one : (xs : List A) (i : ℕ) (x y : A) → IsAt xs i x → IsAt xs i y → x ≡ y
  at_one xs i x y e f = some-injective x y (sym e ∙ f)

  pub at_some : (xs : List A) (i : ℕ) → i < length xs → (x : A) × IsAt xs i x
  at_some [] i lt = absurd (omega arith)
  at_some (x ∷ xs) zero lt = (x, refl)
  at_some (x ∷ xs) (suc i) lt = at_some xs i (omega arith)

  pub at_replicate : (n : ℕ) (x y : A) (i : ℕ) → IsAt (replicate n x) i y → y ≡ x
  at_replicate zero x y i e = absurd (some-ne-none y (sym e))
  at_replicate (suc n) x y zero e = sym (some-injective x y e)
  at_replicate (suc n) x y (suc i) e = at_replicate n x y i e

  -- What holds of all holds at each place.
  pub all_at : (P : A → Type 0) (xs : List A) (i : ℕ) (x : A) → All P xs → IsAt xs i x → P x
  all_at P xs i x all e = subst P (at_read xs i x x e) (all i x (at_below xs i x e))

  pub pairs_tail : (R : A → A → Type 0) (x : A) (xs : List A) → AllPairs R (x ∷ xs) → AllPairs R xs
  pairs_tail R x xs pairs i j d lt in' = pairs (suc i) (suc j) d (omega arith) (omega arith)

  -- What holds at each place holds of all.
  pub all_from_at : (P : A → Type 0) (xs : List A) → ((i : ℕ) (x : A) → IsAt xs i x → P x) → All P xs
  all_from_at P xs each k d below =
      let there = at_some xs k below in
      let read : get_or xs k d ≡ there.0 = at_read xs k there.0 d there.1 in
      subst P (sym read) (each k there.0 there.1)

module _ {A B : Type 0} where
  pub at_map : (f : A → B) (xs : List A) (i : ℕ) (x : A) → IsAt xs i x → IsAt (map f xs) i (f x)
  at_map f [] i x e = absurd (some-ne-none x (sym e))
  at_map f (y ∷ ys) zero x e = ap (λ (z : A). some (f z)) (some-injective y x e)
  at_map f (y ∷ ys) (suc i) x e = at_map f ys i x e

  pub at_map_back : (f : A → B) (xs : List A) (i : ℕ) (y : B) → IsAt (map f xs) i y → (x : A) × IsAt xs i x × (y ≡ f x)
  at_map_back f [] i y e = absurd (some-ne-none y (sym e))
  at_map_back f (x ∷ xs) zero y e = (x, refl, sym (some-injective (f x) y e))
  at_map_back f (x ∷ xs) (suc i) y e = at_map_back f xs i y e

  pub at_zip : (xs : List A) (ys : List B) (i : ℕ) (p : A × B) → IsAt (zip xs ys) i p → IsAt xs i p.0 × IsAt ys i p.1
  at_zip [] ys i p e = absurd (some-ne-none p (sym e))
  at_zip (x ∷ xs) [] i p e = absurd (some-ne-none p (sym e))
  at_zip (x ∷ xs) (y ∷ ys) zero p e =
      let is : (let q : A × B = (x, y) in q) ≡ p = some-injective (let q : A × B = (x, y) in q) p e in
      (ap (λ (q : A × B). some q.0) is, ap (λ (q : A × B). some q.1) is)
  at_zip (x ∷ xs) (y ∷ ys) (suc i) p e = at_zip xs ys i p e

  pub length_zip : (xs : List A) (ys : List B) → length xs ≡ length ys → length (zip xs ys) ≡ length ys
  length_zip [] [] same = refl
  length_zip [] (y ∷ ys) same = absurd (omega (arith, same))
  length_zip (x ∷ xs) [] same = absurd (omega (arith, same))
  length_zip (x ∷ xs) (y ∷ ys) same = ap suc (length_zip xs ys (let s : length xs ≡ length ys = omega (arith, same) in s))
