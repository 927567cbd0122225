-- Draws lead to what the seats share.
use Rattle.std.proofs.Common.{◌≡◌, ℕ, suc, ◌+◌, ◌<◌, List, [], ◌∷◌, ◌++◌, length, set, get_or, remove, refl, sym, ap, ◌∙◌, arith, All, sum_by, cond, Bool, true, false, IsPermutation}
use Rattle.std.specs.Str.{bytes_eq}
use Rattle.std.proofs.lemmas.Slice.Eq.{bytes_eq-Decides}
use Rattle.std.proofs.lemmas.List.Sums.{sum_by-cons, sum_by-remove}
use Rattle.std.proofs.lemmas.List.Sorted.{IsPermutation-refl, IsPermutation-cons, IsPermutation-trans, IsPermutation-sym, IsPermutation-remove}
use mathlib.Core.Option.{some}
use Rattle.nvm_record.specs.Lists.{IsAt}
use Rattle.nvm_engine.specs.declared.bounds.Bounds.{Bounds}
use Rattle.nvm_engine.specs.Claims.{ClaimState, Draws, HasCome, opening_claims}
use Rattle.nvm_engine.specs.Inside.Rule.{total, HasComeTo, no_numbers}
use Rattle.nvm_engine.proofs.Places.{at_below, at_read}
use Rattle.nvm_engine.proofs.Totals.{sum_set, sum_one, total_draw, total_of_all}

-- 1 at one list.
abbrev is_it : List ℕ → List ℕ → ℕ
is_it d x = cond {A = ℕ} (bytes_eq x d) 1 0

it_is : (d : List ℕ) → is_it d d ≡ 1
it_is d = ap (λ (c : Bool). cond {A = ℕ} c 1 0) ((bytes_eq-Decides d d).1 refl)

found : (x d : List ℕ) (xs : List (List ℕ)) (c : Bool) → bytes_eq x d ≡ c → (0 < sum_by (is_it d) xs → (i : ℕ) × IsAt xs i d)
    → 0 < sum_by (is_it d) (x ∷ xs) → (i : ℕ) × IsAt (x ∷ xs) i d
found x d xs true is rest more = (0, ap some ((bytes_eq-Decides x d).0 is))
found x d xs false is rest more =
    let none : is_it d x ≡ 0 = ap (λ (c : Bool). cond {A = ℕ} c 1 0) is in
    let cons : sum_by (is_it d) (x ∷ xs) ≡ is_it d x + sum_by (is_it d) xs = sum_by-cons (is_it d) x xs in
    let there = rest (omega arith) in
    (suc there.0, there.1)

-- A list that is counted is found somewhere.
pick : (d : List ℕ) (xs : List (List ℕ)) → 0 < sum_by (is_it d) xs → (i : ℕ) × IsAt xs i d
pick d [] more = absurd (omega arith)
pick d (x ∷ xs) more = found x d xs (bytes_eq x d) refl (pick d xs) more

same_lists : (xs ys : List (List ℕ)) → ((h : List ℕ → ℕ) → sum_by h xs ≡ sum_by h ys) → IsPermutation xs ys
same_lists [] [] same = IsPermutation-refl []
same_lists [] (y ∷ ys) same =
    let counts : 0 ≡ sum_by (λ (d : List ℕ). 1) (y ∷ ys) = same (λ d. 1) in
    let cons : sum_by (λ (d : List ℕ). 1) (y ∷ ys) ≡ 1 + sum_by (λ (d : List ℕ). 1) ys = sum_by-cons (λ (d : List ℕ). 1) y ys in
    absurd (omega arith)
same_lists (x ∷ xs) ys same =
    let mine : sum_by (is_it x) (x ∷ xs) ≡ is_it x x + sum_by (is_it x) xs = sum_by-cons (is_it x) x xs in
    let one : is_it x x ≡ 1 = it_is x in
    let theirs : sum_by (is_it x) (x ∷ xs) ≡ sum_by (is_it x) ys = same (is_it x) in
    let there = pick x ys (omega arith) in
    let lt : there.0 < length ys = at_below ys there.0 x there.1 in
    let here : get_or ys there.0 x ≡ x = at_read ys there.0 x x there.1 in
    let rest : IsPermutation xs (remove ys there.0) =
    same_lists xs (remove ys there.0)
    (λ h.
    let less : sum_by h (remove ys there.0) + h (get_or ys there.0 x) ≡ sum_by h ys = sum_by-remove h ys there.0 x lt in
    let is : h (get_or ys there.0 x) ≡ h x = ap h here in
    let cons : sum_by h (x ∷ xs) ≡ h x + sum_by h xs = sum_by-cons h x xs in
    let all : sum_by h (x ∷ xs) ≡ sum_by h ys = same h in
    omega arith) in
    IsPermutation-trans (x ∷ xs) (x ∷ remove ys there.0) ys (IsPermutation-cons x xs (remove ys there.0) rest)
    (IsPermutation-sym ys (x ∷ remove ys there.0) (IsPermutation-remove ys there.0 x lt (sym here)))

pub come_draw : (b : Bounds) (word : ℕ) (groups : List (List (List ℕ))) (id : ℕ) (drawn : List ℕ) → HasComeTo b word groups → IsAt groups id (drawn ∷ [])
    → All (λ x. x < b.jobs) drawn → HasComeTo b (word + 1) (set groups id ((drawn ++ word ∷ []) ∷ []))
come_draw b word groups id drawn come at low =
    let s : ClaimState = come.0 in
    let new : List ℕ = drawn ++ word ∷ [] in
    let counted : sum_by (is_it drawn) s.lists ≡ total (is_it drawn) groups = come.3 (is_it drawn) in
    let without : total (is_it drawn) (set groups id []) + sum_by (is_it drawn) (drawn ∷ []) ≡ total (is_it drawn) groups + 0 =
    sum_set (sum_by (is_it drawn)) groups id (drawn ∷ []) [] at in
    let only : sum_by (is_it drawn) (drawn ∷ []) ≡ is_it drawn drawn = sum_one (is_it drawn) drawn in
    let one : is_it drawn drawn ≡ 1 = it_is drawn in
    let place = pick drawn s.lists (omega arith) in
    let t : ClaimState = record { word = word + 1; lists = set s.lists place.0 new } in
    let draws : Draws b.jobs s t = record {
      worker = place.0;
      drawn = drawn;
      at = place.1;
      goes_on = low;
      word = ap (λ (n : ℕ). n + 1) (sym come.2);
      lists = ap (λ (n : ℕ). set s.lists place.0 (drawn ++ n ∷ [])) (sym come.2);
    } in (
      t,
      (suc come.1.0, (s, come.1.1, draws)),
      refl,
      λ h.
          let mine : sum_by h (set s.lists place.0 new) + h drawn ≡ sum_by h s.lists + h new = sum_set h s.lists place.0 drawn new place.1 in
          let theirs : total h (set groups id (new ∷ [])) + h drawn ≡ total h groups + h new = total_draw h groups id drawn new at in
          let same : sum_by h s.lists ≡ total h groups = come.3 h in
          omega arith,
    )

-- Lists that are moved about are the same lists.
pub come_moved : (b : Bounds) (word : ℕ) (groups now : List (List (List ℕ))) → HasComeTo b word groups → ((h : List ℕ → ℕ) → total h now ≡ total h groups)
    → HasComeTo b word now
come_moved b word groups now come same = (come.0, come.1, come.2, λ h. come.3 h ∙ sym (same h))

pub come_opening : (b : Bounds) → HasComeTo b 0 (no_numbers b ∷ [])
come_opening b = (opening_claims b.workers, (0, refl), refl, λ h. sym (sum_one (sum_by h) (no_numbers b)))

pub come_to_the_end : (b : Bounds) (word : ℕ) (groups : List (List (List ℕ))) (id : ℕ) (lists : List (List ℕ)) → HasComeTo b word groups → IsAt groups id lists
    → total (λ d. 1) groups ≡ length lists → HasCome b.jobs b.workers word lists
come_to_the_end b word groups id lists come at all =
    (come.0, come.1, come.2, same_lists come.0.lists lists (λ h. come.3 h ∙ total_of_all h groups id lists at all))
