-- Workers that are given seats of their own, and that come together again.
use Rattle.std.proofs.Common.{◌≡◌, ℕ, suc, ◌+◌, ◌-◌, ◌<◌, List, [], ◌∷◌, ◌++◌, take, drop, replicate, refl, sym, ap, ◌∙◌, arith, append_assoc}
use Rattle.std.proofs.lemmas.List.{drop-replicate}
use Rattle.atomic_table.specs.Seated.{TableId}
use Rattle.nvm_engine.specs.Counters.{ClaimView, new_claim, lists_of}
use Rattle.nvm_engine.specs.Inside.Plays.{Sits, resting}
use Rattle.nvm_engine.specs.Inside.Seats.{only}

-- The first of the workers that are left has drawn nothing.
pub first_is_new : (old new : Sits) (workers number : ℕ) → number < workers → old ≡ resting (replicate (workers - number) [])
    → new ≡ resting (take 1 old.0) → only new.0 ≡ []
first_is_new old new workers number lt was is =
    let next : workers - number ≡ suc (workers - (number + 1)) = omega arith in
    ap (λ (m : Sits). only m.0) is
    ∙ (ap (λ (m : Sits). only (take 1 m.0)) was ∙ ap (λ (k : ℕ). only (take 1 (replicate k []))) next)

-- The others are left.
pub others_are_left : (old new : Sits) (workers number : ℕ) → old ≡ resting (replicate (workers - number) [])
    → new ≡ resting (drop 1 old.0) → new ≡ resting (replicate (workers - (number + 1)) [])
others_are_left old new workers number was is =
    let fewer : workers - number - 1 ≡ workers - (number + 1) = omega arith in
    is
    ∙ (ap (λ (m : Sits). resting (drop 1 m.0)) was
    ∙ (ap resting (drop-replicate 1 (workers - number) []) ∙ ap (λ (k : ℕ). resting (replicate k [])) fewer))

pub is_new : (table table' : TableId) (drawn : List ℕ) → table ≡ table' → drawn ≡ []
    → (let claim : ClaimView = record { table = table; drawn = drawn } in claim) ≡ new_claim table'
is_new table table' drawn p q = λ i. record { table = p i; drawn = q i }

lists_more : (claims : List ClaimView) (c : ClaimView) → lists_of (claims ++ c ∷ []) ≡ lists_of claims ++ c.drawn ∷ []
lists_more [] c = refl
lists_more (x ∷ xs) c = ap (λ (ls : List (List ℕ)). x.drawn ∷ ls) (lists_more xs c)

-- One worker more is at the seat, and one claim less is left.
pub gathered_more : (old new : List ClaimView) (c : ClaimView) (lists all : List (List ℕ)) (joined seat : Sits)
    → old ≡ new ++ c ∷ [] → seat ≡ resting (c.drawn ∷ []) → joined ≡ resting (seat.0 ++ lists) → lists_of old ++ lists ≡ all
    → lists_of new ++ joined.0 ≡ all
gathered_more old new c lists all joined seat is seated join whole =
    let at_seat : joined.0 ≡ c.drawn ∷ lists = ap (λ (m : Sits). m.0) join ∙ ap (λ (m : Sits). m.0 ++ lists) seated in
    ap (λ (ls : List (List ℕ)). lists_of new ++ ls) at_seat
    ∙ (sym (append_assoc (lists_of new) (c.drawn ∷ []) lists)
    ∙ (ap (λ (ls : List (List ℕ)). ls ++ lists) (sym (lists_more new c) ∙ ap lists_of (sym is)) ∙ whole))

pub rests_as : (m : Sits) (lists : List (List ℕ)) → m ≡ resting lists → m ≡ resting m.0
rests_as m lists is = is ∙ ap (λ (x : Sits). resting x.0) (sym is)

pub one_rests : (m : Sits) (drawn : List ℕ) → m ≡ resting (drawn ∷ []) → m ≡ resting (only m.0 ∷ [])
one_rests m drawn is = is ∙ ap (λ (x : Sits). resting (only x.0 ∷ [])) (sym is)
