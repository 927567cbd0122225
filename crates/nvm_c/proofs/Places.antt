-- Lists that are read by place, and made longer at their end.
use Rattle.std.proofs.Common.{◌≡◌, ◌⊎◌, ℕ, zero, suc, ◌+◌, ◌<◌, ◌≤◌, List, [], ◌∷◌, ◌++◌, length, map, get_or, set, inl, inr, refl, sym, ap, subst, ◌∙◌, arith, All}
use mathlib.Core.Option.{some, some-injective, some-ne-none}
use Rattle.nvm_record.specs.Lists.{IsAt}

-- What is below the next number is below this one, or is it.
before_or_here : (k i : ℕ) → k < i + 1 → (k < i) ⊎ (k ≡ i)
before_or_here zero zero lt = inr refl
before_or_here zero (suc i) lt = inl (omega arith)
before_or_here (suc k) zero lt = absurd (omega (arith, lt))
before_or_here (suc k) (suc i) lt =
    let under : k < i + 1 = omega (arith, lt) in
    elim (before_or_here k i under) [
      | inl before ↦ inl (omega (arith, before))
      | inr here ↦ inr (ap suc here)
    ]

module _ {A : Type 0} where
  pub at_below : (xs : List A) (i : ℕ) (x : A) → IsAt xs i x → i < length xs
  at_below [] i x e = absurd (some-ne-none x (sym e))
  at_below (y ∷ ys) zero x e = omega arith
  at_below (y ∷ ys) (suc i) x e = let h = at_below ys i x e in omega arith

  pub at_read : (xs : List A) (i : ℕ) (x d : A) → IsAt xs i x → get_or xs i d ≡ x
  at_read [] i x d e = absurd (some-ne-none x (sym e))
  at_read (y ∷ ys) zero x d e = some-injective y x e
  at_read (y ∷ ys) (suc i) x d e = at_read ys i x d e

  pub at_index : (xs : List A) (i : ℕ) (x : A) → i < length xs → x ≡ get_or xs i x → IsAt xs i x
  at_index [] i x lt e = absurd (omega arith)
  at_index (y ∷ ys) zero x lt e = ap some (sym e)
  at_index (y ∷ ys) (suc i) x lt e = at_index ys i x (omega arith) e

  pub at_some : (xs : List A) (i : ℕ) → i < length xs → (x : A) × IsAt xs i x
  at_some [] i lt = absurd (omega arith)
  at_some (x ∷ xs) zero lt = (x, refl)
  at_some (x ∷ xs) (suc i) lt = at_some xs i (omega arith)

  -- What stands at a place of a longer list is what stood there, or the new one.
  pub at_push : (xs : List A) (x : A) (i : ℕ) (y : A) → IsAt (xs ++ x ∷ []) i y → IsAt xs i y ⊎ ((i ≡ length xs) × (x ≡ y))
  at_push [] x zero y e = inr (refl, some-injective x y e)
  at_push [] x (suc i) y e = absurd (some-ne-none y (sym e))
  at_push (z ∷ zs) x zero y e = inl e
  at_push (z ∷ zs) x (suc i) y e = elim (at_push zs x i y e) [
    | inl there ↦ inl there
    | inr last ↦ inr (ap suc last.0, last.1)
  ]

  -- What holds at each place and of the new one holds at each place of the longer list.
  pub each_push : (P : ℕ → A → Type 0) (xs : List A) (x : A) → ((i : ℕ) (y : A) → IsAt xs i y → P i y) → P (length xs) x
      → (i : ℕ) (y : A) → IsAt (xs ++ x ∷ []) i y → P i y
  each_push P xs x each new i y e = elim (at_push xs x i y e) [
    | inl there ↦ each i y there
    | inr last ↦ subst (λ (j : ℕ). P j y) (sym last.0) (subst (P (length xs)) last.1 new)
  ]

  pub each_none : (P : ℕ → A → Type 0) (i : ℕ) (y : A) → IsAt [] i y → P i y
  each_none P i y e = absurd (some-ne-none y (sym e))

  -- What holds of all holds at each place.
  pub all_at : (P : A → Type 0) (xs : List A) (i : ℕ) (x : A) → All P xs → IsAt xs i x → P x
  all_at P xs i x all e = subst P (at_read xs i x x e) (all i x (at_below xs i x e))

  -- What holds at each place holds of all.
  pub all_from_at : (P : A → Type 0) (xs : List A) → ((i : ℕ) (x : A) → IsAt xs i x → P x) → All P xs
  all_from_at P xs each k d below =
      let there = at_some xs k below in
      let read : get_or xs k d ≡ there.0 = at_read xs k there.0 d there.1 in
      subst P (sym read) (each k there.0 there.1)

  -- What holds of all before this place.
  abbrev pub AllBelow : (A → Type 0) → List A → ℕ → Type 0
  AllBelow P xs i = (k : ℕ) (x : A) → k < i → IsAt xs k x → P x

  pub none_below : (P : A → Type 0) (xs : List A) → AllBelow P xs 0
  none_below P xs k x lt e = absurd (omega (arith, lt))

  pub one_below : (P : A → Type 0) (xs : List A) (i : ℕ) (x : A) → AllBelow P xs i → IsAt xs i x → P x → AllBelow P xs (i + 1)
  one_below P xs i x all at new k y lt e = elim (before_or_here k i lt) [
    | inl before ↦ all k y before e
    | inr here ↦ subst P (some-injective x y (sym at ∙ subst (λ (j : ℕ). IsAt xs j y) here e)) new
  ]

  pub all_below : (P : A → Type 0) (xs : List A) (i : ℕ) → AllBelow P xs i → length xs ≤ i → All P xs
  all_below P xs i all long = all_from_at P xs (λ k x e. let lt = at_below xs k x e in let under : k < i = omega (arith, lt, long) in all k x under e)

module _ {A B : Type 0} where
  pub at_map : (f : A → B) (xs : List A) (i : ℕ) (x : A) → IsAt xs i x → IsAt (map f xs) i (f x)
  at_map f [] i x e = absurd (some-ne-none x (sym e))
  at_map f (y ∷ ys) zero x e = ap (λ (z : A). some (f z)) (some-injective y x e)
  at_map f (y ∷ ys) (suc i) x e = at_map f ys i x e

  pub at_map_back : (f : A → B) (xs : List A) (i : ℕ) (y : B) → IsAt (map f xs) i y → (x : A) × IsAt xs i x × (y ≡ f x)
  at_map_back f [] i y e = absurd (some-ne-none y (sym e))
  at_map_back f (x ∷ xs) zero y e = (x, refl, sym (some-injective (f x) y e))
  at_map_back f (x ∷ xs) (suc i) y e = at_map_back f xs i y e

  -- What is written over an element that looks the same leaves what all look like.
  pub map_set : (f : A → B) (xs : List A) (i : ℕ) (x y : A) → i < length xs → x ≡ get_or xs i x → f y ≡ f x → map f (set xs i y) ≡ map f xs
  map_set f [] i x y lt e same = absurd (omega arith)
  map_set f (z ∷ zs) zero x y lt e same = ap (λ (w : B). w ∷ map f zs) (same ∙ ap f e)
  map_set f (z ∷ zs) (suc i) x y lt e same = ap (λ (ws : List B). f z ∷ ws) (map_set f zs i x y (omega arith) e same)
