-- What is listed in the order of its places, each once and none left out, is what passes a test.
use Rattle.std.proofs.Common.{◌≡◌, ℕ, zero, suc, ◌+◌, ◌≤◌, List, [], ◌∷◌, map, filter, cond, Bool, true, false, refl, sym, ap, subst, ◌∙◌, arith}
use mathlib.Core.Bool.{true≢false}
use mathlib.Core.Option.{some-injective}
use Rattle.nvm_record.specs.Lists.{IsAt}
use Rattle.nvm_audit.proofs.Standing.{Stands, none_stands}

module _ {A : Type 0} where
  -- The places rise, from `low` on.
  abbrev pub Rise : ℕ → List (ℕ × A) → Type 0
  Rise low [] = Unit {0}
  Rise low (p ∷ ps) = (low ≤ p.0) × Rise (p.0 + 1) ps

  rise_all : (low : ℕ) (ps : List (ℕ × A)) → Rise low ps → (k : ℕ) (q : ℕ × A) → IsAt ps k q → low ≤ q.0
  rise_all low [] rise k q at = absurd (none_stands k q at)
  rise_all low (p ∷ ps) rise zero q at =
      let first = rise.0 in
      let same : p.0 ≡ q.0 = ap (λ (x : ℕ × A). x.0) (some-injective p q at) in
      omega (arith, first, same)
  rise_all low (p ∷ ps) rise (suc k) q at =
      let first = rise.0 in
      let rest = rise_all (p.0 + 1) ps rise.1 k q at in
      omega (arith, first, rest)

  -- It is in a list, whose first is at place n, at its place, and passes the test.
  pub record IsIn (f : A → Bool) (n : ℕ) (xs : List A) (q : ℕ × A) : Type 0 where
    pub j : ℕ
    pub place : q.0 ≡ n + j
    pub at : IsAt xs j q.1
    pub passes : f q.1 ≡ true

  abbrev pub AllIn : (A → Bool) → ℕ → List A → List (ℕ × A) → Type 0
  AllIn f n xs ps = (k : ℕ) (q : ℕ × A) → IsAt ps k q → IsIn f n xs q

  abbrev pub NoneLeft : (A → Bool) → ℕ → List A → List (ℕ × A) → Type 0
  NoneLeft f n xs ps = (j : ℕ) (x : A) → IsAt xs j x → f x ≡ true → Stands ps (n + j, x)

  raised : (n : ℕ) (ps : List (ℕ × A)) → Rise n ps → ((k : ℕ) (q : ℕ × A) → IsAt ps k q → n + 1 ≤ q.0) → Rise (n + 1) ps
  raised n [] rise above = tt
  raised n (p ∷ ps) rise above = (above 0 p refl, rise.1)

  behind : (f : A → Bool) (n : ℕ) (x : A) (xs : List A) (q : ℕ × A) (j : ℕ) → q.0 ≡ n + j → IsAt (x ∷ xs) j q.1 → f q.1 ≡ true
      → f x ≡ false → n + 1 ≤ q.0
  behind f n x xs q zero place at passes e =
      absurd (true≢false (sym passes ∙ ap f (sym (some-injective x q.1 at)) ∙ e))
  behind f n x xs q (suc j) place at passes e = omega (arith, place)

  later : (f : A → Bool) (n : ℕ) (x : A) (xs : List A) (q : ℕ × A) (j : ℕ) → q.0 ≡ n + j → IsAt (x ∷ xs) j q.1 → f q.1 ≡ true
      → n + 1 ≤ q.0 → IsIn f (n + 1) xs q
  later f n x xs q zero place at passes above = absurd (omega (arith, place, above))
  later f n x xs q (suc j) place at passes above = record { j = j; place = omega (arith, place); at = at; passes = passes }

  -- the first of them comes first
  leads : (n : ℕ) (x : A) (p : ℕ × A) (ps : List (ℕ × A)) → Rise n (p ∷ ps) → (k : ℕ) → IsAt (p ∷ ps) k (n + 0, x) → p ≡ (n + 0, x)
  leads n x p ps rise zero at = some-injective p (n + 0, x) at
  leads n x p ps rise (suc k) at =
      let first = rise.0 in
      let rest = rise_all (p.0 + 1) ps rise.1 k (n + 0, x) at in
      absurd (omega (arith, first, rest))

  behind_leader : (n j : ℕ) (y : A) (p : ℕ × A) (ps : List (ℕ × A)) → p.0 ≡ n → (k : ℕ) → IsAt (p ∷ ps) k (n + suc j, y)
      → Stands ps (n + 1 + j, y)
  behind_leader n j y p ps is zero at =
      let same : p.0 ≡ n + suc j = ap (λ (q : ℕ × A). q.0) (some-injective p (n + suc j, y) at) in
      absurd (omega (arith, same, is))
  behind_leader n j y p ps is (suc k) at =
      let number : n + suc j ≡ n + 1 + j = omega arith in
      (k, subst (λ (m : ℕ). IsAt ps k (m, y)) number at)

  pub listed : (f : A → Bool) (n : ℕ) (xs : List A) (ps : List (ℕ × A)) → Rise n ps → AllIn f n xs ps → NoneLeft f n xs ps
      → map (λ (q : ℕ × A). q.1) ps ≡ filter f xs
  listed f n [] [] rise sound whole = refl
  listed f n [] (p ∷ ps) rise sound whole = let first = sound 0 p refl in absurd (none_stands first.j p.1 first.at)
  listed f n (x ∷ xs) ps rise sound whole =
      by (λ qs r s w. listed f (n + 1) xs qs r s w) (f x) refl ps rise sound whole
    where
      by : ((qs : List (ℕ × A)) → Rise (n + 1) qs → AllIn f (n + 1) xs qs → NoneLeft f (n + 1) xs qs → map (λ (q : ℕ × A). q.1) qs ≡ filter f xs)
          → (b : Bool) → f x ≡ b → (ps : List (ℕ × A)) → Rise n ps → AllIn f n (x ∷ xs) ps → NoneLeft f n (x ∷ xs) ps
          → map (λ (q : ℕ × A). q.1) ps ≡ cond b (x ∷ filter f xs) (filter f xs)
      by rest false e ps rise sound whole =
          let above : (k : ℕ) (q : ℕ × A) → IsAt ps k q → n + 1 ≤ q.0 =
          λ k q at. let is = sound k q at in behind f n x xs q is.j is.place is.at is.passes e in
          rest ps (raised n ps rise above)
          (λ k q at. let is = sound k q at in later f n x xs q is.j is.place is.at is.passes (above k q at))
          (λ j y at passes.
          let there = whole (suc j) y at passes in
          let number : n + suc j ≡ n + 1 + j = omega arith in
          (there.0, subst (λ (m : ℕ). IsAt ps there.0 (m, y)) number there.1))
      by rest true e [] rise sound whole = let there = whole 0 x refl e in absurd (none_stands there.0 (n + 0, x) there.1)
      by rest true e (p ∷ ps) rise sound whole =
          let there = whole 0 x refl e in
          let lead = leads n x p ps rise there.0 there.1 in
          let first : p.0 ≡ n + 0 = ap (λ (q : ℕ × A). q.0) lead in
          let first_is : p.0 ≡ n = omega (arith, first) in
          let behind_it = rest ps (subst (λ (m : ℕ). Rise (m + 1) ps) first_is rise.1)
          (λ k q at.
          let is = sound (suc k) q at in
          let far = rise_all (p.0 + 1) ps rise.1 k q at in
          let above : n + 1 ≤ q.0 = omega (arith, far, first_is) in
          later f n x xs q is.j is.place is.at is.passes above)
          (λ j y at passes. let found = whole (suc j) y at passes in behind_leader n j y p ps first_is found.0 found.1) in
          ap (λ (y : A). y ∷ map (λ (q : ℕ × A). q.1) ps) (ap (λ (q : ℕ × A). q.1) lead) ∙ ap (λ (l : List A). x ∷ l) behind_it
