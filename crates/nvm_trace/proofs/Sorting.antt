-- A list in order has the elements of another, where each two of them have an order.
use Rattle.std.proofs.Common.{◌⊎◌, ℕ, zero, suc, ◌≤◌, List, [], ◌∷◌, All, IsPermutation, inl, inr, arith}
use Rattle.std.proofs.lemmas.List.Elements.{All-nil, All-cons, All-head, All-tail, All-weaker}
use Rattle.std.proofs.lemmas.List.Sorted.{IsPermutation-refl, IsPermutation-trans, IsPermutation-cons, IsPermutation-middle, All-permutation}
use Rattle.std.specs.List.Sorted.{IsNonDecreasingBy}

module _ {A : Type 0} where
  -- Each element has this to each one that comes after it.
  abbrev pub Pairwise : (A → A → Type 0) → List A → Type 0
  Pairwise R [] = Unit {0}
  Pairwise R (x ∷ xs) = All (R x) xs × Pairwise R xs

  -- An order is one of any two, and goes on from one to the next.
  pub record IsOrder (before : A → A → Type 0) : Type 0 where
    pub either : (x y : A) → before x y ⊎ before y x
    pub next : (x y z : A) → before x y → before y z → before x z

module _ {A : Type 0} (before apart : A → A → Type 0) (is_order : IsOrder before) (back : (x y : A) → apart x y → apart y x) where
  -- the same elements in order, of which each two are apart
  pub record Sorted (xs : List A) : Type 0 where
    pub ys : List A
    pub same : IsPermutation xs ys
    pub in_order : Pairwise before ys
    pub all_apart : Pairwise apart ys

  insertion : (x : A) (xs : List A) → Pairwise before xs → All (apart x) xs → Pairwise apart xs → Sorted (x ∷ xs)
  insertion x [] rise far pairs =
      record {
        ys = x ∷ [];
        same = IsPermutation-refl (x ∷ []);
        in_order = (All-nil (before x), tt);
        all_apart = (All-nil (apart x), tt);
      }
  insertion x (y ∷ ys) rise far pairs = elim (is_order.either x y) [
    | inl first ↦ record {
      ys = x ∷ y ∷ ys;
      same = IsPermutation-refl (x ∷ y ∷ ys);
      in_order =
          (All-cons (before x) y ys first (All-weaker (before y) (before x) (λ z h. is_order.next x y z first h) ys rise.0), rise);
      all_apart = (far, pairs);
    }
    | inr second ↦
        let rest = insertion x ys rise.1 (All-tail (apart x) y ys far) pairs.1 in
        record {
          ys = y ∷ rest.ys;
          same =
              IsPermutation-trans (x ∷ y ∷ ys) (y ∷ x ∷ ys) (y ∷ rest.ys) (IsPermutation-middle (x ∷ []) y ys)
              (IsPermutation-cons y (x ∷ ys) rest.ys rest.same);
          in_order = (All-permutation (before y) (x ∷ ys) rest.ys rest.same (All-cons (before y) x ys second rise.0), rest.in_order);
          all_apart = (
            All-permutation (apart y) (x ∷ ys) rest.ys rest.same
                (All-cons (apart y) x ys (back x y (All-head (apart x) y ys far)) pairs.0),
            rest.all_apart,
          );
        }
  ]

  pub sorted : (xs : List A) → Pairwise apart xs → Sorted xs
  sorted [] pairs = record { ys = []; same = IsPermutation-refl []; in_order = tt; all_apart = tt }
  sorted (x ∷ xs) pairs =
      let rest = sorted xs pairs.1 in
      let more = insertion x rest.ys rest.in_order (All-permutation (apart x) xs rest.ys rest.same pairs.0) rest.all_apart in
      record {
        ys = more.ys;
        same = IsPermutation-trans (x ∷ xs) (x ∷ rest.ys) more.ys (IsPermutation-cons x xs rest.ys rest.same) more.same;
        in_order = more.in_order;
        all_apart = more.all_apart;
      }

-- What never falls from one element to a later one doesn't fall along the list.
pub never_falls : {A : Type 0} (n : A → ℕ) (xs : List A) → Pairwise (λ x y. n x ≤ n y) xs → IsNonDecreasingBy n xs
never_falls n [] rise i j d le low = absurd (omega (arith, low))
never_falls n (x ∷ xs) rise zero zero d le low = omega arith
never_falls n (x ∷ xs) rise zero (suc j) d le low = rise.0 j d (omega (arith, low))
never_falls n (x ∷ xs) rise (suc i) zero d le low = absurd (omega (arith, le))
never_falls n (x ∷ xs) rise (suc i) (suc j) d le low = never_falls n xs rise.1 i j d (omega (arith, le)) (omega (arith, low))
