-- Parts that are walked one after the other, against the units in which a job has a part.
use Rattle.std.proofs.Common.{◌≡◌, ◌≢◌, ◌↔◌, ℕ, ◌+◌, ◌<◌, ◌≤◌, List, [], ◌∷◌, ◌++◌, length, map, drop, get_or, sym, ap, subst, ◌∙◌, arith, add-one}
use Rattle.std.proofs.Math.ListN.{drop_of_length-le}
use Rattle.std.proofs.Math.Seq.{drop-cons}
use Rattle.std.specs.List.{AllByRecursion}
use Rattle.nvm_plan.specs.declared.part.Part.{Part}

module _ {A : Type 0} where
  pub drop_one : (xs : List A) (i : ℕ) (d : A) → i < length xs → drop i xs ≡ get_or xs i d ∷ drop (i + 1) xs
  drop_one xs i d lt = drop-cons xs i d lt ∙ ap (λ (n : ℕ). get_or xs i d ∷ drop n xs) (sym (add-one i))

  -- What is so of each that is left is so of all where it was so of those before.
  abbrev pub KeepsAll : (A → Type 0) → List A → ℕ → Type 0
  KeepsAll P xs i = AllByRecursion P (drop i xs) ↔ AllByRecursion P xs

  module _ (P : A → Type 0) (xs : List A) (i : ℕ) (d : A) (lt : i < length xs) (keeps : KeepsAll P xs i) where
    pub keeps_one_more : P (get_or xs i d) → KeepsAll P xs (i + 1)
    keeps_one_more is = (
      λ rest. keeps.0 (subst (AllByRecursion P) (sym (drop_one xs i d lt)) (is, rest)),
      λ all. (subst (AllByRecursion P) (drop_one xs i d lt) (keeps.1 all)).1,
    )

    pub fails_here : ¬ (P (get_or xs i d)) → ¬ (AllByRecursion P xs)
    fails_here isnt all = isnt (subst (AllByRecursion P) (drop_one xs i d lt) (keeps.1 all)).0

  pub kept_to_end : (P : A → Type 0) (xs : List A) (i : ℕ) → length xs ≤ i → KeepsAll P xs i → AllByRecursion P xs
  kept_to_end P xs i le keeps = keeps.0 (subst (AllByRecursion P) (sym (drop_of_length-le xs le)) tt)

abbrev pub units_of_parts : List Part → List ℕ
units_of_parts parts = map (λ part. part.unit) parts

-- These units are left of them all where the parts before were in the first of them.
abbrev pub KeepsLeft : List Part → ℕ → List ℕ → List ℕ → Type 0
KeepsLeft parts i units all =
    (left : List ℕ) → (units_of_parts (drop i parts) ++ left ≡ units) ↔ (units_of_parts parts ++ left ≡ all)

same_first : (u v : ℕ) (us vs : List ℕ) → u ∷ us ≡ v ∷ vs → u ≡ v
same_first u v us vs e = ap (λ (xs : List ℕ). get_or xs 0 0) e

same_rest : (u v : ℕ) (us vs : List ℕ) → u ∷ us ≡ v ∷ vs → us ≡ vs
same_rest u v us vs e = ap (drop 1) e

module _ (parts : List Part) (i : ℕ) (d : Part) (units all : List ℕ) (lt : i < length parts) (keeps : KeepsLeft parts i units all) where
  at_part : (left : List ℕ) → units_of_parts parts ++ left ≡ all
      → (get_or parts i d).unit ∷ units_of_parts (drop (i + 1) parts) ++ left ≡ units
  at_part left e =
      sym (ap (λ (ps : List Part). units_of_parts ps ++ left) (drop_one parts i d lt)) ∙ (keeps left).1 e

  module _ (unit : ℕ) (rest : List ℕ) (first : units ≡ unit ∷ rest) where
    pub left_one_less : unit ≡ (get_or parts i d).unit → KeepsLeft parts (i + 1) rest all
    left_one_less same left = (
      λ e.
          (keeps left).0
          (ap (λ (ps : List Part). units_of_parts ps ++ left) (drop_one parts i d lt)
          ∙ ap (λ (us : List ℕ). (get_or parts i d).unit ∷ us) e
          ∙ ap (λ (u : ℕ). u ∷ rest) (sym same) ∙ sym first),
      λ e. same_rest _ unit _ rest (at_part left e ∙ first),
    )

    pub other_unit : unit ≢ (get_or parts i d).unit → (left : List ℕ) → units_of_parts parts ++ left ≢ all
    other_unit other left e = other (sym (same_first _ unit _ rest (at_part left e ∙ first)))

  pub no_unit : units ≡ [] → (left : List ℕ) → units_of_parts parts ++ left ≢ all
  no_unit none left e = let long = ap length (at_part left e ∙ none) in omega (arith, long)

pub left_at_end : (parts : List Part) (i : ℕ) (units all : List ℕ) → length parts ≤ i → KeepsLeft parts i units all
    → (left : List ℕ) → (left ≡ units) ↔ (units_of_parts parts ++ left ≡ all)
left_at_end parts i units all le keeps left =
    let none = ap (λ (ps : List Part). units_of_parts ps ++ left) (drop_of_length-le parts le) in (
      λ e. (keeps left).0 (none ∙ e),
      λ e. sym none ∙ (keeps left).1 e,
    )
