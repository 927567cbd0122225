-- Reading items one after the other, as a loop does.
use Rattle.std.proofs.Common.{◌≡◌, ◌⊎◌, ℕ, suc, ◌-◌, ◌+◌, ◌≤◌, ◌<◌, List, [], ◌∷◌, ◌++◌, length, map, Global, Vec, Result, Ok, Err, inl, inr, refl, sym, ap, subst, ◌∙◌, append-nil, arith}
use Rattle.nvm_file.specs.declared.rest.Rest.{Rest}
use Rattle.nvm_file.specs.Fields.{◌>>=◌, GivesUnless, items_at}
use Rattle.nvm_file.specs.Inside.Items.{HasFailed, HasRead, Reads}
use Rattle.nvm_file.specs.Inside.Rest.{left_of}

-- what was read before, and what is still read
abbrev with_front : {A E : Type 0} → List A → Result (List A × List ℕ) E → Result (List A × List ℕ) E
with_front front read = read >>= λ x. Ok (front ++ x.0, x.1)

module _ {T E : Type 0} (call : ℕ → Rest → Result (T × Rest) E → Type 0) where
  -- one call more
  pub one_more : (place : ℕ) (from : Rest) (xs : List T) (left : Rest) (x : T) (after : Rest)
      → Reads call place from xs left → call (place + length xs) left (Ok (x, after)) → Reads call place from (xs ++ x ∷ []) after
  unfolding Reads
  one_more place from [] left x after before here =
      let same : place + 0 ≡ place = omega arith in
      (after, subst (λ r. call place r (Ok (x, after))) (sym before) (subst (λ n. call n left (Ok (x, after))) same here), refl)
  one_more place from (y ∷ ys) left x after (next, first, others) here =
      let same : place + suc (length ys) ≡ place + 1 + length ys = omega arith in
      (next, first, one_more (place + 1) next ys left x after others (subst (λ n. call n left (Ok (x, after))) same here))

  module _ {A : Type 0} (excused : E → Type 0) (view : T → A) (seen : List T → List A) (none : seen [] ≡ [])
      (some : (x : T) (xs : List T) → seen (x ∷ xs) ≡ view x ∷ seen xs) (item : ℕ → List ℕ → Result (A × List ℕ) E) (count : ℕ)
      (gives : (place : ℕ) (rest : Rest) (answer : Result (T × Rest) E) → place < count → call place rest answer
      → GivesUnless excused (λ x. (view x.0, left_of x.1)) answer (item place (left_of rest))) where
    -- what these calls read, and then what is still read
    so_far : (place : ℕ) (from : Rest) (xs : List T) (left : Rest) (all more end : ℕ) → all ≡ length xs + more → end ≡ place + length xs
        → end ≤ count → Reads call place from xs left
        → items_at item place all (left_of from) ≡ with_front (seen xs) (items_at item end more (left_of left))
    unfolding items_at Reads
    so_far place from [] left all more end sum ends few read =
        let same : all ≡ more = omega (arith, sum) in
        let here : end ≡ place = omega (arith, ends) in
        rw (same, here, read, none) (sym (by (items_at item place more (left_of left))))
      where
        by : (r : Result (List A × List ℕ) E) → with_front [] r ≡ r
        by (Ok y) = refl
        by (Err e) = refl
    so_far place from (x ∷ xs) left all more end sum ends few (next, first, others) =
        let here : item place (left_of from) ≡ Ok (view x, left_of next) = gives place from (Ok (x, next)) (omega (arith, few, ends)) first in
        let longer : all ≡ suc (length xs + more) = omega (arith, sum) in
        let rest = so_far (place + 1) next xs left (length xs + more) more end refl (omega (arith, ends)) few others in
        rw (longer, here, rest, some x xs) (by (items_at item end more (left_of left)))
      where
        by : (r : Result (List A × List ℕ) E)
            → (with_front (seen xs) r >>= λ y. Ok (view x ∷ y.0, y.1)) ≡ with_front (view x ∷ seen xs) r
        by (Ok y) = refl
        by (Err e) = refl

    failed : (from : Rest) (e : E) (at : HasFailed call count from e) → (item (length at.items) (left_of at.left) ≡ Err e) ⊎ excused e
        → (items_at item 0 count (left_of from) ≡ Err e) ⊎ excused e
    unfolding items_at
    failed from e at (inr why) = inr why
    failed from e at (inl is) =
        let others = count - (length at.items + 1) in
        let before = so_far 0 from at.items at.left count (suc others) (length at.items) (omega (arith, at.few)) (omega arith)
        (omega (arith, at.few)) at.before in
        inl (rw (before, is) refl)

    given : (from : Rest) (answer : Result (Vec T Global × Rest) E) → HasRead call excused count from answer
        → GivesUnless excused (λ x. (seen x.0.items, left_of x.1)) answer (items_at item 0 count (left_of from))
    unfolding items_at
    given from (Ok x) read =
        so_far 0 from x.0.items x.1 count 0 count (omega (arith, read.1)) (omega (arith, read.1)) (omega arith) read.0
        ∙ ap (λ xs. Ok (xs, left_of x.1)) (append-nil (seen x.0.items))
    given from (Err e) (inr why) = inr why
    given from (Err e) (inl at) = failed from e at (gives (length at.items) at.left (Err e) at.few at.fails)

module _ {T E : Type 0} {call : ℕ → Rest → Result (T × Rest) E → Type 0} {excused : E → Type 0} where
  -- Where each call gives what is read at its place, all calls give what is read of all items.
  pub items_given : (item : ℕ → List ℕ → Result (T × List ℕ) E) (count : ℕ) (from : Rest) (answer : Result (Vec T Global × Rest) E)
      → HasRead call excused count from answer
      → ((place : ℕ) (rest : Rest) (one : Result (T × Rest) E) → place < count → call place rest one
      → GivesUnless excused (λ x. (x.0, left_of x.1)) one (item place (left_of rest)))
      → GivesUnless excused (λ x. (x.0.items, left_of x.1)) answer (items_at item 0 count (left_of from))
  items_given item count from answer read gives =
      given call excused (λ x. x) (λ xs. xs) refl (λ x xs. refl) item count gives from answer read

  -- The same of items that are seen by `view`.
  pub views_given : {A : Type 0} (view : T → A) (item : ℕ → List ℕ → Result (A × List ℕ) E) (count : ℕ) (from : Rest)
      (answer : Result (Vec T Global × Rest) E) → HasRead call excused count from answer
      → ((place : ℕ) (rest : Rest) (one : Result (T × Rest) E) → place < count → call place rest one
      → GivesUnless excused (λ x. (view x.0, left_of x.1)) one (item place (left_of rest)))
      → GivesUnless excused (λ x. (map view x.0.items, left_of x.1)) answer (items_at item 0 count (left_of from))
  views_given view item count from answer read gives =
      given call excused view (map view) refl (λ x xs. refl) item count gives from answer read
