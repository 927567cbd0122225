-- The greatest of some numbers.
use Rattle.std.proofs.Common.{◌≡◌, ℕ, zero, suc, ◌+◌, ◌<◌, ◌≤◌, List, [], ◌∷◌, ◌++◌, max, length, take, set, get_or, sym, ap, subst, ◌∙◌, inl, inr, arith, length-set, get_or-set_same, get_or-set_other}
use Rattle.std.proofs.lemmas.Bool.{cases_eq, cases_lt}
use Rattle.std.proofs.lemmas.List.{take_more}
use Rattle.nvm_trace.specs.Inside.Latest.{greatest, IsRaisedTo}

greatest-push : (xs : List ℕ) (x : ℕ) → greatest (xs ++ x ∷ []) ≡ max (greatest xs) x
greatest-push [] x = omega arith
greatest-push (y ∷ ys) x = let e = greatest-push ys x in omega (arith, e)

-- One number more is looked at.
pub greatest_more : (xs : List ℕ) (i : ℕ) → i < length xs → greatest (take (i + 1) xs) ≡ max (greatest (take i xs)) (get_or xs i 0)
greatest_more xs i low = ap greatest (take_more xs i 0 low) ∙ greatest-push (take i xs) (get_or xs i 0)

pub greatest_above : (xs : List ℕ) (i k : ℕ) → i < k → i < length xs → get_or xs i 0 ≤ greatest (take k xs)
greatest_above [] i k low within = absurd (omega arith)
greatest_above (x ∷ xs) i zero low within = absurd (omega arith)
greatest_above (x ∷ xs) zero (suc k) low within = omega arith
greatest_above (x ∷ xs) (suc i) (suc k) low within = let h = greatest_above xs i k (omega arith) (omega arith) in omega (arith, h)

-- The greatest is one of them.
pub greatest_there : (xs : List ℕ) (k : ℕ) → 0 < greatest (take k xs)
    → (i : ℕ) × (i < k) × (i < length xs) × (get_or xs i 0 ≡ greatest (take k xs))
greatest_there [] zero some = absurd (omega arith)
greatest_there [] (suc k) some = absurd (omega arith)
greatest_there (x ∷ xs) zero some = absurd (omega arith)
greatest_there (x ∷ xs) (suc k) some =
    let there = greatest_there xs k in
    elim (cases_lt x (greatest (take k xs))) [
      | inl less ↦
          let t = there (omega arith) in
          (suc t.0, let low = t.1 in omega arith, let within = t.2 in omega arith, let e = t.3 in omega (arith, e))
      | inr most ↦ (0, omega arith, omega arith, omega arith)
    ]

module _ (old row : List ℕ) (i latest : ℕ) (to : IsRaisedTo old row i latest) (low : i < length row) where
  raised_number : greatest (take (i + 1) old) ≡ max latest (get_or row i 0)
  raised_number =
      let long = to.long in
      let more = greatest_more old i (omega (arith, long, low)) in
      let was = to.left i (omega arith) in
      let latest = to.latest_is in
      omega (arith, more, was, latest)

  -- The number at the place is lower than one before, and is raised.
  pub raised_lower : get_or row i 0 < latest → IsRaisedTo old (set row i latest) (i + 1) latest
  raised_lower less = record {
    long = length-set row i latest ∙ to.long;
    raised = λ k below. elim (cases_eq k i) [
      | inl e ↦
          let number = raised_number in
          let same : latest ≡ greatest (take (i + 1) old) = omega (arith, number, less) in
          subst (λ (n : ℕ). get_or (set row i latest) n 0 ≡ greatest (take (n + 1) old)) (sym e) (get_or-set_same row i latest 0 low ∙ same)
      | inr apart ↦ get_or-set_other row i k latest 0 apart ∙ to.raised k (omega (arith, below, apart))
    ];
    left = λ k above. get_or-set_other row i k latest 0 (omega (arith, above)) ∙ to.left k (omega (arith, above));
    latest_is = let number = raised_number in omega (arith, number, less);
  }

  -- It is the greatest so far.
  pub raised_higher : (x : ℕ) → x ≡ get_or row i 0 → latest ≤ x → IsRaisedTo old row (i + 1) x
  raised_higher x is most = record {
    long = to.long;
    raised = λ k below. elim (cases_eq k i) [
      | inl e ↦
          let number = raised_number in
          subst (λ (n : ℕ). get_or row n 0 ≡ greatest (take (n + 1) old)) (sym e) (omega (arith, number, is, most))
      | inr apart ↦ to.raised k (omega (arith, below, apart))
    ];
    left = λ k above. to.left k (omega (arith, above));
    latest_is = let number = raised_number in omega (arith, number, is, most);
  }
