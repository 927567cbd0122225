-- What is at a place of a list.
use Rattle.std.proofs.Common.{◌≡◌, ℕ, zero, suc, ◌<◌, List, [], ◌∷◌, length, map, filter, cond, Bool, true, false, get_or, Contains, refl, sym, ap, subst, ◌∙◌, inl, inr, arith}
use Rattle.std.proofs.lemmas.List.Elements.{Contains-append_left, Contains-append_right, Contains-append_cases}
use Rattle.std.specs.List.{flat_map}
use mathlib.Core.Option.{some, some-injective, some-ne-none}
use Rattle.nvm_record.specs.Lists.{IsAt}

module _ {A : Type 0} where
  pub none_stands : (i : ℕ) (x : A) → IsAt [] i x → ⊥
  none_stands i x e = some-ne-none x (sym e)

  pub below : (xs : List A) (i : ℕ) (x : A) → IsAt xs i x → i < length xs
  below [] i x e = absurd (none_stands i x e)
  below (y ∷ ys) zero x e = omega arith
  below (y ∷ ys) (suc i) x e = let h = below ys i x e in omega arith

  pub read_there : (xs : List A) (i : ℕ) (d : A) → i < length xs → IsAt xs i (get_or xs i d)
  read_there [] i d low = absurd (omega arith)
  read_there (y ∷ ys) zero d low = refl
  read_there (y ∷ ys) (suc i) d low = read_there ys i d (omega arith)

  pub read_is : (xs : List A) (i : ℕ) (x d : A) → IsAt xs i x → get_or xs i d ≡ x
  read_is [] i x d e = absurd (none_stands i x e)
  read_is (y ∷ ys) zero x d e = some-injective y x e
  read_is (y ∷ ys) (suc i) x d e = read_is ys i x d e

  pub one_there : (xs : List A) (i : ℕ) (x y : A) → IsAt xs i x → IsAt xs i y → x ≡ y
  one_there xs i x y e f = some-injective x y (sym e ∙ f)

  -- what was read is there
  pub stands_read : (xs : List A) (i : ℕ) (x : A) → i < length xs → x ≡ get_or xs i x → IsAt xs i x
  stands_read xs i x low is = subst (λ (y : A). IsAt xs i y) (sym is) (read_there xs i x low)

  pub contained : (xs : List A) (i : ℕ) (x : A) → IsAt xs i x → Contains xs x
  contained xs i x e = (i, below xs i x e, read_is xs i x x e)

  pub placed : (xs : List A) (x : A) → Contains xs x → (i : ℕ) × IsAt xs i x
  placed xs x has = (has.0, stands_read xs has.0 x has.1 (sym has.2))

  -- something is at each place
  pub some_there : (xs : List A) (i : ℕ) → i < length xs → (x : A) × IsAt xs i x
  some_there [] i low = absurd (omega arith)
  some_there (y ∷ ys) zero low = (y, refl)
  some_there (y ∷ ys) (suc i) low = some_there ys i (omega arith)

  pub in_filter : (f : A → Bool) (xs : List A) (i : ℕ) (x : A) → IsAt xs i x → f x ≡ true → (k : ℕ) × IsAt (filter f xs) k x
  in_filter f [] i x e t = absurd (none_stands i x e)
  in_filter f (y ∷ ys) zero x e t =
      let same : f y ≡ true = ap f (some-injective y x e) ∙ t in
      subst (λ (b : Bool). (k : ℕ) × IsAt (cond b (y ∷ filter f ys) (filter f ys)) k x) (sym same) (0, e)
  in_filter f (y ∷ ys) (suc i) x e t = by (f y) (in_filter f ys i x e t)
    where
      by : (b : Bool) → (k : ℕ) × IsAt (filter f ys) k x → (k : ℕ) × IsAt (cond b (y ∷ filter f ys) (filter f ys)) k x
      by true h = (suc h.0, h.1)
      by false h = h

pub map_of_map : {A B C : Type 0} (f : A → B) (g : B → C) (xs : List A) → map g (map f xs) ≡ map (λ x. g (f x)) xs
map_of_map f g [] = refl
map_of_map f g (x ∷ xs) = ap (λ ys. g (f x) ∷ ys) (map_of_map f g xs)

module _ {A B : Type 0} where
  pub at_map : (f : A → B) (xs : List A) (i : ℕ) (x : A) → IsAt xs i x → IsAt (map f xs) i (f x)
  at_map f [] i x e = absurd (none_stands i x e)
  at_map f (y ∷ ys) zero x e = ap (λ (z : A). some (f z)) (some-injective y x e)
  at_map f (y ∷ ys) (suc i) x e = at_map f ys i x e

  pub out_of_map : (f : A → B) (xs : List A) (i : ℕ) (y : B) → IsAt (map f xs) i y → (x : A) × IsAt xs i x × (f x ≡ y)
  out_of_map f [] i y e = absurd (none_stands i y e)
  out_of_map f (x ∷ xs) zero y e = (x, refl, some-injective (f x) y e)
  out_of_map f (x ∷ xs) (suc i) y e = out_of_map f xs i y e

  -- What a list gives comes of one of its elements.
  pub out_of_flat : (f : A → List B) (xs : List A) (y : B) → Contains (flat_map f xs) y
      → (i : ℕ) × (x : A) × IsAt xs i x × Contains (f x) y
  out_of_flat f [] y has = let low = has.1 in absurd (omega (arith, low))
  out_of_flat f (x ∷ xs) y has = elim (Contains-append_cases (f x) (flat_map f xs) y has) [
    | inl here ↦ (0, x, refl, here)
    | inr after ↦ let rest = out_of_flat f xs y after in (suc rest.0, rest.1, rest.2, rest.3)
  ]

  pub into_flat : (f : A → List B) (xs : List A) (i : ℕ) (x : A) (y : B) → IsAt xs i x → Contains (f x) y → Contains (flat_map f xs) y
  into_flat f [] i x y e has = absurd (none_stands i x e)
  into_flat f (z ∷ zs) zero x y e has =
      Contains-append_left (f z) (flat_map f zs) y (subst (λ (v : A). Contains (f v) y) (sym (some-injective z x e)) has)
  into_flat f (z ∷ zs) (suc i) x y e has = Contains-append_right (f z) (flat_map f zs) y (into_flat f zs i x y e has)
