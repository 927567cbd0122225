-- What is at a place of a list that is made of others.
use Rattle.std.proofs.Common.{◌≡◌, ◌⊎◌, ℕ, zero, suc, ◌<◌, List, [], ◌∷◌, ◌++◌, length, filter, cond, Bool, true, false, get_or, refl, sym, subst, ap, ◌∙◌, Contains, arith, inl, inr, All}
use Rattle.std.proofs.lemmas.List.Elements.{All-head, All-tail}
use Rattle.std.specs.List.{flat_map}
use mathlib.Core.Option.{some-injective, some-ne-none}
use Rattle.nvm_record.specs.Lists.{IsAt}

-- It is somewhere in the list.
abbrev pub Stands : {A : Type 0} → List A → A → Type 0
Stands xs x = (i : ℕ) × IsAt xs i x

module _ {A : Type 0} where
  pub none_stands : (i : ℕ) (x : A) → IsAt [] i x → ⊥
  none_stands i x e = some-ne-none x (sym e)

  pub below : (xs : List A) (i : ℕ) (x : A) → IsAt xs i x → i < length xs
  below [] i x e = absurd (none_stands i x e)
  below (y ∷ ys) zero x e = omega arith
  below (y ∷ ys) (suc i) x e = let h = below ys i x e in omega arith

  pub read_there : (xs : List A) (i : ℕ) (d : A) → i < length xs → IsAt xs i (get_or xs i d)
  read_there [] i d lt = absurd (omega arith)
  read_there (y ∷ ys) zero d lt = refl
  read_there (y ∷ ys) (suc i) d lt = read_there ys i d (omega arith)

  pub read_is : (xs : List A) (i : ℕ) (x d : A) → IsAt xs i x → get_or xs i d ≡ x
  read_is [] i x d e = absurd (none_stands i x e)
  read_is (y ∷ ys) zero x d e = some-injective y x e
  read_is (y ∷ ys) (suc i) x d e = read_is ys i x d e

  -- One thing is at a place.
  pub one_there : (xs : List A) (i : ℕ) (x y : A) → IsAt xs i x → IsAt xs i y → x ≡ y
  one_there xs i x y e f = some-injective x y (sym e ∙ f)

  pub contained : (xs : List A) (i : ℕ) (x : A) → IsAt xs i x → Contains xs x
  contained xs i x e = (i, below xs i x e, read_is xs i x x e)

  -- what is in a list of one
  pub alone : (y : A) (i : ℕ) (x : A) → IsAt (y ∷ []) i x → (i ≡ 0) × (x ≡ y)
  alone y zero x e = (refl, sym (some-injective y x e))
  alone y (suc i) x e = absurd (none_stands i x e)

  pub in_append : (xs ys : List A) (i : ℕ) (x : A) → IsAt (xs ++ ys) i x → Stands xs x ⊎ Stands ys x
  in_append [] ys i x e = inr (i, e)
  in_append (y ∷ xs) ys zero x e = inl (zero, e)
  in_append (y ∷ xs) ys (suc i) x e = elim (in_append xs ys i x e) [
    | inl here ↦ inl (suc here.0, here.1)
    | inr after ↦ inr after
  ]

  pub in_filter : (f : A → Bool) (xs : List A) (i : ℕ) (x : A) → IsAt (filter f xs) i x → (f x ≡ true) × Stands xs x
  in_filter f [] i x e = absurd (none_stands i x e)
  in_filter f (y ∷ ys) i x e = by (λ j h. in_filter f ys j x h) (f y) refl i e
    where
      by : ((j : ℕ) → IsAt (filter f ys) j x → (f x ≡ true) × Stands ys x) → (b : Bool) → f y ≡ b → (i : ℕ)
          → IsAt (cond b (y ∷ filter f ys) (filter f ys)) i x → (f x ≡ true) × Stands (y ∷ ys) x
      by behind true t zero e = let same : y ≡ x = some-injective y x e in (rw same at t, (zero, e))
      by behind true t (suc i) e = let rest = behind i e in (rest.0, (suc rest.1.0, rest.1.1))
      by behind false t i e = let rest = behind i e in (rest.0, (suc rest.1.0, rest.1.1))

  pub in_filter_back : (f : A → Bool) (xs : List A) (i : ℕ) (x : A) → IsAt xs i x → f x ≡ true → Stands (filter f xs) x
  in_filter_back f [] i x e t = absurd (none_stands i x e)
  in_filter_back f (y ∷ ys) zero x e t =
      let same : f y ≡ true = ap f (some-injective y x e) ∙ t in
      subst (λ (b : Bool). Stands (cond b (y ∷ filter f ys) (filter f ys)) x) (sym same) (0, e)
  in_filter_back f (y ∷ ys) (suc i) x e t = by (f y) (in_filter_back f ys i x e t)
    where
      by : (b : Bool) → Stands (filter f ys) x → Stands (cond b (y ∷ filter f ys) (filter f ys)) x
      by true h = (suc h.0, h.1)
      by false h = h

  -- What comes before another thing among those that pass a test comes before it among all.
  pub filter_order : (f : A → Bool) (xs : List A) (i j : ℕ) (x y : A) → IsAt (filter f xs) i x → IsAt (filter f xs) j y → i < j
      → (a b : ℕ) × IsAt xs a x × IsAt xs b y × (a < b)
  filter_order f [] i j x y e h lt = absurd (none_stands i x e)
  filter_order f (z ∷ zs) i j x y e h lt =
      by (λ a b p q below. filter_order f zs a b x y p q below) (λ b q. in_filter f zs b y q) (f z) i j e h lt
    where
      by : ((a b : ℕ) → IsAt (filter f zs) a x → IsAt (filter f zs) b y → a < b → (c d : ℕ) × IsAt zs c x × IsAt zs d y × (c < d))
          → ((b : ℕ) → IsAt (filter f zs) b y → (f y ≡ true) × Stands zs y)
          → (t : Bool) (i j : ℕ) → IsAt (cond t (z ∷ filter f zs) (filter f zs)) i x → IsAt (cond t (z ∷ filter f zs) (filter f zs)) j y → i < j
          → (a b : ℕ) × IsAt (z ∷ zs) a x × IsAt (z ∷ zs) b y × (a < b)
      by behind after true i zero e h lt = absurd (omega arith)
      by behind after true zero (suc j) e h lt = let rest = after j h in (0, suc rest.1.0, e, rest.1.1, omega arith)
      by behind after true (suc i) (suc j) e h lt = let rest = behind i j e h (omega arith) in (suc rest.0, suc rest.1, rest.2, rest.3, omega (arith, rest.4))
      by behind after false i j e h lt = let rest = behind i j e h lt in (suc rest.0, suc rest.1, rest.2, rest.3, omega (arith, rest.4))

  -- What is so of all is so of what is there.
  pub all_at : (P : A → Type 0) (xs : List A) → All P xs → (i : ℕ) (x : A) → IsAt xs i x → P x
  all_at P [] all i x e = absurd (none_stands i x e)
  all_at P (y ∷ ys) all zero x e = subst P (some-injective y x e) (All-head P y ys all)
  all_at P (y ∷ ys) all (suc i) x e = all_at P ys (All-tail P y ys all) i x e

module _ {A B : Type 0} where
  pub in_flat_map : (f : A → List B) (xs : List A) (i : ℕ) (y : B) → IsAt (flat_map f xs) i y → (x : A) × Stands xs x × Stands (f x) y
  in_flat_map f [] i y e = absurd (none_stands i y e)
  in_flat_map f (x ∷ xs) i y e = elim (in_append (f x) (flat_map f xs) i y e) [
    | inl here ↦ (x, (zero, refl), here)
    | inr after ↦ let rest = in_flat_map f xs after.0 y after.1 in (rest.0, (suc rest.1.0, rest.1.1), rest.2)
  ]
