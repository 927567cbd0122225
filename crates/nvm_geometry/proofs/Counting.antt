-- Counts and filters of the numbers from `a` on, where a test agrees with another from some place on.
use Rattle.std.proofs.Common.{◌≡◌, inl, inr, ℕ, zero, suc, ◌+◌, ◌<◌, ◌≤◌, Bool, true, false, List, ◌∷◌, map, refl, sym, ap, ◌∙◌, arith}
use Rattle.std.specs.Prelude.{count_by, filter, ◌==◌}
use Rattle.std.specs.List.{range_with_len}
use Rattle.std.proofs.lemmas.List.Sums.{length-filter}
use Rattle.std.proofs.lemmas.Bool.{cases_Bool, cases_eq, eq-eqb, ne_eqb}

pub count_yes : (p : ℕ → Bool) (x : ℕ) (xs : List ℕ) → p x ≡ true → count_by p (x ∷ xs) ≡ count_by p xs + 1
count_yes p x xs h =
    sym (length-filter p (x ∷ xs)) ∙ rw h (omega (arith, length-filter p xs))

pub count_no : (p : ℕ → Bool) (x : ℕ) (xs : List ℕ) → p x ≡ false → count_by p (x ∷ xs) ≡ count_by p xs
count_no p x xs h = sym (length-filter p (x ∷ xs)) ∙ rw h (length-filter p xs)

-- tests that agree on the numbers count alike
pub count_agree : (p q : ℕ → Bool) (a n : ℕ) → ((x : ℕ) → a ≤ x → x < a + n → p x ≡ q x)
    → count_by p (range_with_len a n) ≡ count_by q (range_with_len a n)
count_agree p q a zero same = refl
count_agree p q a (suc n) same =
    let rest = count_agree p q (a + 1) n (λ x low high. same x (omega (arith, low)) (omega (arith, high))) in
    let here = same a (omega arith) (omega arith) in
    elim (cases_Bool (q a)) [
      | inl t ↦ omega (arith, rest, count_yes p a (range_with_len (a + 1) n) (here ∙ t), count_yes q a (range_with_len (a + 1) n) t)
      | inr f ↦ omega (arith, rest, count_no p a (range_with_len (a + 1) n) (here ∙ f), count_no q a (range_with_len (a + 1) n) f)
    ]

-- no number passes
pub count_none_pass : (p : ℕ → Bool) (a n : ℕ) → ((x : ℕ) → a ≤ x → x < a + n → p x ≡ false) → count_by p (range_with_len a n) ≡ 0
count_none_pass p a zero fails = refl
count_none_pass p a (suc n) fails =
    omega (
      arith,
      count_no p a (range_with_len (a + 1) n) (fails a (omega arith) (omega arith)),
      count_none_pass p (a + 1) n (λ x low high. fails x (omega (arith, low)) (omega (arith, high))),
    )

-- a number that passes is counted
pub passing_counted : (p : ℕ → Bool) (a n x : ℕ) → p x ≡ true → a ≤ x → x < a + n → 0 < count_by p (range_with_len a n)
passing_counted p a zero x passes low high = absurd (omega arith)
passing_counted p a (suc n) x passes low high =
    elim (cases_eq a x) [
      | inl e ↦ omega (arith, count_yes p a (range_with_len (a + 1) n) (rw e passes))
      | inr o ↦
          let rest = passing_counted p (a + 1) n x passes (omega (arith, o, low)) (omega (arith, high)) in
          elim (cases_Bool (p a)) [
            | inl t ↦ omega (arith, count_yes p a (range_with_len (a + 1) n) t)
            | inr f ↦ omega (arith, rest, count_no p a (range_with_len (a + 1) n) f)
          ]
    ]

-- where some are counted, one passes
pub counted_passes : (p : ℕ → Bool) (a n : ℕ) → 0 < count_by p (range_with_len a n)
    → (x : ℕ) × (a ≤ x) × (x < a + n) × (p x ≡ true)
counted_passes p a zero some = absurd (omega (arith, some))
counted_passes p a (suc n) some =
    elim (cases_Bool (p a)) [
      | inl t ↦ (a, omega arith, omega arith, t)
      | inr f ↦
          let rest = counted_passes p (a + 1) n (omega (arith, some, count_no p a (range_with_len (a + 1) n) f)) in
          (rest.0, omega (arith, rest.1), omega (arith, rest.2), rest.3)
    ]

-- the first n of m numbers pass, and the others are counted
pub count_front_passes : (p : ℕ → Bool) (a n m b k : ℕ) → m ≡ n + k → b ≡ a + n → ((x : ℕ) → a ≤ x → x < a + n → p x ≡ true)
    → count_by p (range_with_len a m) ≡ n + count_by p (range_with_len b k)
count_front_passes p a zero m b k whole next passes =
    let all : m ≡ k = omega arith in
    let here : b ≡ a = omega arith in
    rw (all, here) (omega arith)
count_front_passes p a (suc n) zero b k whole next passes = absurd (omega arith)
count_front_passes p a (suc n) (suc m) b k whole next passes =
    omega (
      arith,
      count_yes p a (range_with_len (a + 1) m) (passes a (omega arith) (omega arith)),
      count_front_passes p (a + 1) n m b k (omega arith) (omega arith) (λ x low high. passes x (omega (arith, low)) (omega (arith, high))),
    )

-- the first n of m numbers don't pass, and the others are counted
pub count_front_fails : (p : ℕ → Bool) (a n m b k : ℕ) → m ≡ n + k → b ≡ a + n → ((x : ℕ) → a ≤ x → x < a + n → p x ≡ false)
    → count_by p (range_with_len a m) ≡ count_by p (range_with_len b k)
count_front_fails p a zero m b k whole next fails =
    let all : m ≡ k = omega arith in
    let here : b ≡ a = omega arith in
    rw (all, here) refl
count_front_fails p a (suc n) zero b k whole next fails = absurd (omega arith)
count_front_fails p a (suc n) (suc m) b k whole next fails =
    omega (
      arith,
      count_no p a (range_with_len (a + 1) m) (fails a (omega arith) (omega arith)),
      count_front_fails p (a + 1) n m b k (omega arith) (omega arith) (λ x low high. fails x (omega (arith, low)) (omega (arith, high))),
    )

-- tests and functions that agree on the numbers give one list
pub kept_agree : {X : Type 0} (p q : ℕ → Bool) (f g : ℕ → X) (a n : ℕ) → ((x : ℕ) → a ≤ x → p x ≡ q x) → ((x : ℕ) → a ≤ x → f x ≡ g x)
    → map f (filter p (range_with_len a n)) ≡ map g (filter q (range_with_len a n))
kept_agree p q f g a zero same alike = refl
kept_agree p q f g a (suc n) same alike =
    let rest = kept_agree p q f g (a + 1) n (λ x low. same x (omega (arith, low))) (λ x low. alike x (omega (arith, low))) in
    rw (same a (omega arith))
    (elim (cases_Bool (q a)) [
      | inl t ↦ rw (t, alike a (omega arith), rest) refl
      | inr f ↦ rw (f, rest) refl
    ])

-- The first number that passes is u, and above it the tests and functions agree.
pub kept_from : {X : Type 0} (p q : ℕ → Bool) (f g : ℕ → X) (a n u : ℕ)
    → ((x : ℕ) → x < u → p x ≡ false) → p u ≡ true → ((x : ℕ) → x ≤ u → q x ≡ false)
    → ((x : ℕ) → u < x → p x ≡ q x) → ((x : ℕ) → u < x → f x ≡ g x) → a ≤ u → u < a + n
    → map f (filter p (range_with_len a n)) ≡ f u ∷ map g (filter q (range_with_len a n))
kept_from p q f g a zero u fails passes none same alike low high = absurd (omega arith)
kept_from p q f g a (suc n) u fails passes none same alike low high =
    elim (cases_eq a u) [
      | inl e ↦
          rw (e, passes, none u (omega arith))
          (ap (λ xs. f u ∷ xs) (kept_agree p q f g (u + 1) n (λ x l. same x (omega (arith, l))) (λ x l. alike x (omega (arith, l)))))
      | inr other ↦
          rw (fails a (omega (arith, other)), none a low)
          (kept_from p q f g (a + 1) n u fails passes none same alike (omega (arith, other)) (omega arith))
    ]

-- a number of the range that passes is among those kept
pub kept_member : (p : ℕ → Bool) (a n u : ℕ) → p u ≡ true → a ≤ u → u < a + n
    → 0 < count_by (λ v. v == u) (filter p (range_with_len a n))
kept_member p a zero u passes low high = absurd (omega arith)
kept_member p a (suc n) u passes low high =
    elim (cases_eq a u) [
      | inl e ↦ rw (e, passes) (omega (arith, count_yes (λ v. v == u) u (filter p (range_with_len (u + 1) n)) (eq-eqb u u refl)))
      | inr o ↦
          let rest = kept_member p (a + 1) n u passes (omega (arith, o)) (omega arith) in
          elim (cases_Bool (p a)) [
            | inl t ↦ rw t (omega (arith, rest, count_no (λ v. v == u) a (filter p (range_with_len (a + 1) n)) (ne_eqb a u o)))
            | inr f ↦ rw f rest
          ]
    ]
