-- Bytes compared one after the other, and group by group.
use Rattle.std.proofs.Common.{inl, inr, ◌≡◌, ℕ, zero, suc, ◌+◌, ◌-◌, ◌==◌, ◌<◌, Bool, true, false, ◌&&◌, List, [], ◌∷◌, ◌++◌, length, take, drop, get_or, bytes_eq, refl, sym, ap, ◌∙◌, arith}
use Rattle.std.proofs.lemmas.Bool.{cases_Bool, false_from_ne_true, false≢true}
use Rattle.std.proofs.Math.Seq.{take-add}
use Rattle.std.proofs.lemmas.List.{length-drop, take_all, take-append-drop}
use Rattle.std.proofs.lemmas.Slice.Eq.{bytes_eq-Decides}

and_behind : (s t u : Bool) → (s && (t && u)) ≡ ((s && t) && u)
and_behind true t u = refl
and_behind false t u = refl

and_last : (s : Bool) → (s && true) ≡ s
and_last true = refl
and_last false = refl

-- One byte more is compared at the end.
pub one_more : (a b : List ℕ) (i : ℕ) → i < length a → i < length b
    → bytes_eq (take (suc i) a) (take (suc i) b) ≡ (bytes_eq (take i a) (take i b) && (get_or a i 0 == get_or b i 0))
one_more [] b i below other = absurd (omega arith)
one_more (x ∷ xs) [] i below other = absurd (omega arith)
one_more (x ∷ xs) (y ∷ ys) zero below other = and_last (x == y)
one_more (x ∷ xs) (y ∷ ys) (suc i) below other =
    ap (λ (t : Bool). (x == y) && t) (one_more xs ys i (omega arith) (omega arith))
    ∙ and_behind (x == y) (bytes_eq (take i xs) (take i ys)) (get_or xs i 0 == get_or ys i 0)

-- A group more at the front is equal.
pub group_more : (a b : List ℕ) (n m : ℕ) → take n a ≡ take n b → bytes_eq (take m (drop n a)) (take m (drop n b)) ≡ true → take (n + m) a ≡ take (n + m) b
group_more a b n m front group =
    take-add n m a ∙ ap (λ (x : List ℕ). x ++ take m (drop n a)) front
    ∙ ap (λ (x : List ℕ). take n b ++ x) ((bytes_eq-Decides (take m (drop n a)) (take m (drop n b))).0 group) ∙ sym (take-add n m b)

drops_decide : (a b : List ℕ) (n : ℕ) → take n a ≡ take n b → bytes_eq (drop n a) (drop n b) ≡ bytes_eq a b
drops_decide a b n front = elim (cases_Bool (bytes_eq (drop n a) (drop n b))) [
  | inl t ↦ t ∙ sym ((bytes_eq-Decides a b).1 (sym (take-append-drop n a) ∙ ap (λ (x : List ℕ). x ++ drop n a) front
      ∙ ap (λ (x : List ℕ). take n b ++ x) ((bytes_eq-Decides (drop n a) (drop n b)).0 t) ∙ take-append-drop n b))
  | inr f ↦ f ∙ sym (false_from_ne_true (bytes_eq a b) (λ t.
      false≢true (sym f ∙ (bytes_eq-Decides (drop n a) (drop n b)).1 (ap (λ (x : List ℕ). drop n x) ((bytes_eq-Decides a b).0 t)))))
]

rest_is : (a : List ℕ) (n : ℕ) → take (length a - n) (drop n a) ≡ drop n a
rest_is a n = take_all (length a - n) (drop n a) (omega (arith, length-drop n a))

-- Where the fronts are equal, the rest decides.
pub rest_decides : (a b : List ℕ) (n : ℕ) → take n a ≡ take n b → bytes_eq (take (length a - n) (drop n a)) (take (length b - n) (drop n b)) ≡ bytes_eq a b
rest_decides a b n front = ap (λ (x : List ℕ). bytes_eq x (take (length b - n) (drop n b))) (rest_is a n) ∙ ap (bytes_eq (drop n a)) (rest_is b n) ∙ drops_decide a b n front
