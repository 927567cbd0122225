-- What is at a place of a list that is made of others.
use Rattle.std.proofs.Common.{◌≡◌, ◌⊎◌, ℕ, zero, suc, ◌+◌, ◌<◌, List, [], ◌∷◌, ◌++◌, length, map, filter, cond, set, Bool, true, false, refl, sym, subst, ap, ◌∙◌, arith, inl, inr}
use mathlib.Core.Option.{some, some-injective, some-ne-none}
use Rattle.nvm_record.specs.Lists.{IsAt}

-- It is somewhere in the list.
abbrev pub Stands : {A : Type 0} → List A → A → Type 0
Stands xs x = (i : ℕ) × IsAt xs i x

module _ {A : Type 0} where
  pub none_there : (i : ℕ) (x : A) → IsAt [] i x → ⊥
  none_there i x e = some-ne-none x (sym e)

  -- One thing is at a place.
  pub same_there : (xs : List A) (i : ℕ) (x y : A) → IsAt xs i x → IsAt xs i y → x ≡ y
  same_there xs i x y e f = some-injective x y (sym e ∙ f)

  -- Something is at each place below the length.
  pub some_there : (xs : List A) (i : ℕ) → i < length xs → (x : A) × IsAt xs i x
  some_there [] i lt = absurd (omega arith)
  some_there (x ∷ xs) zero lt = (x, refl)
  some_there (x ∷ xs) (suc i) lt = some_there xs i (omega arith)

  pub alone_there : (y : A) (i : ℕ) (x : A) → IsAt (y ∷ []) i x → y ≡ x
  alone_there y zero x e = some-injective y x e
  alone_there y (suc i) x e = absurd (none_there i x e)

  pub in_front : (xs ys : List A) (i : ℕ) (x : A) → IsAt xs i x → IsAt (xs ++ ys) i x
  in_front [] ys i x e = absurd (none_there i x e)
  in_front (z ∷ xs) ys zero x e = e
  in_front (z ∷ xs) ys (suc i) x e = in_front xs ys i x e

  pub behind : (xs ys : List A) (i j : ℕ) (x : A) → i ≡ length xs + j → IsAt ys j x → IsAt (xs ++ ys) i x
  behind [] ys i j x is e = subst (λ (n : ℕ). IsAt ys n x) (let same : j ≡ i = omega arith in same) e
  behind (z ∷ xs) ys zero j x is e = absurd (omega arith)
  behind (z ∷ xs) ys (suc i) j x is e = behind xs ys i j x (omega arith) e

  -- It is in the first list, or after it in the other.
  pub in_either : (xs ys : List A) (i : ℕ) (x : A) → IsAt (xs ++ ys) i x
      → ((i < length xs) × IsAt xs i x) ⊎ ((j : ℕ) × (i ≡ length xs + j) × IsAt ys j x)
  in_either [] ys i x e = inr (i, omega arith, e)
  in_either (z ∷ xs) ys zero x e = inl (omega arith, e)
  in_either (z ∷ xs) ys (suc i) x e = elim (in_either xs ys i x e) [
    | inl here ↦ let lt = here.0 in inl (omega arith, here.1)
    | inr after ↦ let is = after.1 in inr (after.0, omega arith, after.2)
  ]

  -- What passes a test is among all, and passes it.
  pub passes : (f : A → Bool) (xs : List A) (i : ℕ) (x : A) → IsAt (filter f xs) i x → (f x ≡ true) × Stands xs x
  passes f [] i x e = absurd (none_there i x e)
  passes f (y ∷ ys) i x e = by (λ j h. passes f ys j x h) (f y) refl i e
    where
      by : ((j : ℕ) → IsAt (filter f ys) j x → (f x ≡ true) × Stands ys x) → (b : Bool) → f y ≡ b → (i : ℕ)
          → IsAt (cond b (y ∷ filter f ys) (filter f ys)) i x → (f x ≡ true) × Stands (y ∷ ys) x
      by rest true t zero e = (ap f (sym (some-injective y x e)) ∙ t, (zero, e))
      by rest true t (suc i) e = let there = rest i e in (there.0, (suc there.1.0, there.1.1))
      by rest false t i e = let there = rest i e in (there.0, (suc there.1.0, there.1.1))

  pub passes_back : (f : A → Bool) (xs : List A) (i : ℕ) (x : A) → IsAt xs i x → f x ≡ true → Stands (filter f xs) x
  passes_back f [] i x e t = absurd (none_there i x e)
  passes_back f (y ∷ ys) zero x e t =
      let same : f y ≡ true = ap f (some-injective y x e) ∙ t in
      subst (λ (b : Bool). Stands (cond b (y ∷ filter f ys) (filter f ys)) x) (sym same) (0, e)
  passes_back f (y ∷ ys) (suc i) x e t = by (f y) (passes_back f ys i x e t)
    where
      by : (b : Bool) → Stands (filter f ys) x → Stands (cond b (y ∷ filter f ys) (filter f ys)) x
      by true h = (suc h.0, h.1)
      by false h = h

  -- Both are in the list, the one before the other.
  pub record StandInOrder (xs : List A) (x y : A) : Type 0 where
    pub first : ℕ
    pub second : ℕ
    pub first_at : IsAt xs first x
    pub second_at : IsAt xs second y
    pub before : first < second

  -- Those that pass a test keep their order.
  pub keep_order : (f : A → Bool) (xs : List A) (i j : ℕ) (x y : A) → IsAt (filter f xs) i x → IsAt (filter f xs) j y → i < j
      → StandInOrder xs x y
  keep_order f [] i j x y e h lt = absurd (none_there i x e)
  keep_order f (z ∷ zs) i j x y e h lt =
      by (λ a b p q below. keep_order f zs a b x y p q below) (λ b q. (passes f zs b y q).1) (f z) i j e h lt
    where
      later : StandInOrder zs x y → StandInOrder (z ∷ zs) x y
      later rest =
          let lt = rest.before in
          record {
            first = suc rest.first;
            second = suc rest.second;
            first_at = rest.first_at;
            second_at = rest.second_at;
            before = omega arith;
          }

      by : ((a b : ℕ) → IsAt (filter f zs) a x → IsAt (filter f zs) b y → a < b → StandInOrder zs x y)
          → ((b : ℕ) → IsAt (filter f zs) b y → Stands zs y)
          → (t : Bool) (i j : ℕ) → IsAt (cond t (z ∷ filter f zs) (filter f zs)) i x
          → IsAt (cond t (z ∷ filter f zs) (filter f zs)) j y → i < j
          → StandInOrder (z ∷ zs) x y
      by rest after true i zero e h lt = absurd (omega arith)
      by rest after true zero (suc j) e h lt =
          let there = after j h in
          record { first = 0; second = suc there.0; first_at = e; second_at = there.1; before = omega arith }
      by rest after true (suc i) (suc j) e h lt = later (rest i j e h (omega arith))
      by rest after false i j e h lt = later (rest i j e h lt)

  -- What is in a list in which one element was replaced.
  pub replaced : (xs : List A) (i : ℕ) (x y : A) → IsAt xs i y → IsAt (set xs i x) i x
  replaced [] i x y e = absurd (none_there i y e)
  replaced (z ∷ zs) zero x y e = refl
  replaced (z ∷ zs) (suc i) x y e = replaced zs i x y e

  pub kept_elsewhere : (xs : List A) (i j : ℕ) (x y : A) → (i ≡ j → ⊥) → IsAt xs j y → IsAt (set xs i x) j y
  kept_elsewhere [] i j x y other e = e
  kept_elsewhere (z ∷ zs) zero zero x y other e = absurd (other refl)
  kept_elsewhere (z ∷ zs) zero (suc j) x y other e = e
  kept_elsewhere (z ∷ zs) (suc i) zero x y other e = e
  kept_elsewhere (z ∷ zs) (suc i) (suc j) x y other e = kept_elsewhere zs i j x y (λ is. other (ap suc is)) e

  -- Each thing in it was there before at its place, or is the new one.
  pub was_there : (xs : List A) (i j : ℕ) (x y : A) → IsAt (set xs i x) j y → ((j ≡ i) × (y ≡ x)) ⊎ IsAt xs j y
  was_there [] i j x y e = inr e
  was_there (z ∷ zs) zero zero x y e = inl (refl, sym (some-injective x y e))
  was_there (z ∷ zs) zero (suc j) x y e = inr e
  was_there (z ∷ zs) (suc i) zero x y e = inr e
  was_there (z ∷ zs) (suc i) (suc j) x y e = elim (was_there zs i j x y e) [
    | inl here ↦ inl (ap suc here.0, here.1)
    | inr there ↦ inr there
  ]

module _ {A B : Type 0} where
  pub mapped_at : (f : A → B) (xs : List A) (i : ℕ) (x : A) → IsAt xs i x → IsAt (map f xs) i (f x)
  mapped_at f [] i x e = absurd (none_there i x e)
  mapped_at f (z ∷ zs) zero x e = ap (λ (y : A). some (f y)) (some-injective z x e)
  mapped_at f (z ∷ zs) (suc i) x e = mapped_at f zs i x e

  pub mapped_from : (f : A → B) (xs : List A) (i : ℕ) (y : B) → IsAt (map f xs) i y → (x : A) × IsAt xs i x × (y ≡ f x)
  mapped_from f [] i y e = absurd (none_there i y e)
  mapped_from f (z ∷ zs) zero y e = (z, refl, sym (some-injective (f z) y e))
  mapped_from f (z ∷ zs) (suc i) y e = mapped_from f zs i y e
