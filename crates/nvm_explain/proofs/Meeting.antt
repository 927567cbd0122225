-- What is left of a list's different elements, of which some were met before.
use Rattle.std.proofs.Common.{◌≡◌, Bool, true, false, not, ◌&&◌, List, [], ◌∷◌, ap, refl, cond}
use Rattle.std.specs.List.{filter}
use Rattle.nvm_explain.specs.Once.{once}

pub filter_all : {A : Type 0} (p : A → Bool) → ((x : A) → p x ≡ true) → (xs : List A) → filter p xs ≡ xs
filter_all p all [] = refl
filter_all p all (x ∷ xs) = rw (all x, filter_all p all xs) refl

one : {A : Type 0} (p : A → Bool) (b : Bool) (x : A) (ys zs : List A) → filter p ys ≡ zs
    → filter p (cond b (x ∷ ys) ys) ≡ cond (b && p x) (x ∷ zs) zs
one p true x ys zs same = rw same refl
one p false x ys zs same = same

-- two tests in turn are one
twice : {A : Type 0} (p q r : A → Bool) → ((x : A) → r x ≡ (q x && p x)) → (xs : List A) → filter p (filter q xs) ≡ filter r xs
twice p q r both [] = refl
twice p q r both (x ∷ xs) = rw (both x) (one p (q x) x (filter q xs) (filter r xs) (twice p q r both xs))

agrees : (b c : Bool) → (b ≡ true → c ≡ false) → c ≡ (not b && c)
agrees true c tied = tied refl
agrees false c tied = refl

-- One that was met before adds nothing.
pub met : {A : Type 0} (same : A → A → Bool) (p : A → Bool) (w : A) (more : List A) → p w ≡ false
    → ((x : A) → same x w ≡ true → p x ≡ false) → filter p (once same (w ∷ more)) ≡ filter p (once same more)
met same p w more here tied =
    rw here (twice p (λ x. not (same x w)) p (λ x. agrees (same x w) (p x) (tied x)) (once same more))

-- One that is met first comes before those that are left.
pub first_met : {A : Type 0} (same : A → A → Bool) (p q : A → Bool) (w : A) (more : List A) → p w ≡ true
    → ((x : A) → q x ≡ (not (same x w) && p x)) → filter p (once same (w ∷ more)) ≡ w ∷ filter q (once same more)
first_met same p q w more here left = rw here (ap (λ ys. w ∷ ys) (twice p (λ x. not (same x w)) q left (once same more)))
