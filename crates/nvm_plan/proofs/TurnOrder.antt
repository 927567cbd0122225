-- The order in which hosts take turns, on lists of host numbers.
use Rattle.std.proofs.Common.{◌≡◌, ◌≢◌, inl, inr, ℕ, ◌+◌, ◌<◌, ◌≤◌, List, [], ◌∷◌, ◌++◌, length, get_or, take, refl, sym, ◌∙◌, arith, append_assoc, length-append}
use Rattle.std.specs.Prelude.{◌==◌, cond}
use Rattle.std.specs.List.{count_by}
use Rattle.std.proofs.lemmas.Bool.{cases_lt, eq-eqb, ne_eqb}
use Rattle.std.proofs.lemmas.List.{take-append-le, get_or_append_left, get_or_at, take_at, length_push}
use Rattle.std.proofs.lemmas.List.Sums.{sum_by_push}
use Rattle.nvm_plan.specs.Jobs.{StandsBefore}

-- how often the host is among these
abbrev pub times : ℕ → List ℕ → ℕ
times h hs = count_by (λ x. x == h) hs

pub times_same : (h : ℕ) (hs : List ℕ) → times h (hs ++ h ∷ []) ≡ times h hs + 1
times_same h hs = sum_by_push (λ x. cond (x == h) 1 0) hs h ∙ rw (eq-eqb h h refl) refl

pub times_other : (h x : ℕ) (hs : List ℕ) → x ≢ h → times h (hs ++ x ∷ []) ≡ times h hs
times_other h x hs other = sum_by_push (λ x. cond (x == h) 1 0) hs x ∙ rw (ne_eqb x h other) (omega arith)

pub before_trans : (k h l i m j : ℕ) → StandsBefore k h l i → StandsBefore l i m j → StandsBefore k h m j
before_trans k h l i m j (inl p) (inl q) = inl (omega arith)
before_trans k h l i m j (inl p) (inr q) = inl (omega arith)
before_trans k h l i m j (inr p) (inl q) = inl (omega arith)
before_trans k h l i m j (inr p) (inr q) = inr (p.0 ∙ q.0, omega arith)

-- one round later, in the same order
pub before_next : (k h l i : ℕ) → StandsBefore k h l i → StandsBefore (k + 1) h (l + 1) i
before_next k h l i (inl p) = inl (omega arith)
before_next k h l i (inr p) = inr (omega arith, p.1)

pub before_not_after : (k h l i : ℕ) → StandsBefore k h l i → StandsBefore l i k h → ⊥
before_not_after k h l i (inl p) (inl q) = omega arith
before_not_after k h l i (inl p) (inr q) = omega arith
before_not_after k h l i (inr p) (inl q) = omega arith
before_not_after k h l i (inr p) (inr q) = omega arith

-- the number of the job at the place among its host's
abbrev pub round : List ℕ → ℕ → ℕ
round hs p = times (get_or hs p 0) (take p hs)

-- of two places the lower one's job comes first
abbrev pub IsInTurn : List ℕ → Type 0
IsInTurn hs = (p q : ℕ) → p < q → q < length hs → StandsBefore (round hs p) (get_or hs p 0) (round hs q) (get_or hs q 0)

-- each of them comes before job k of host h
abbrev pub AllBefore : List ℕ → ℕ → ℕ → Type 0
AllBefore hs k h = (p : ℕ) → p < length hs → StandsBefore (round hs p) (get_or hs p 0) k h

get_front : (hs more : List ℕ) (p : ℕ) → p < length hs → get_or (hs ++ more) p 0 ≡ get_or hs p 0
get_front hs more p h = get_or_append_left hs more 0 p h

round_front : (hs more : List ℕ) (p : ℕ) → p < length hs → round (hs ++ more) p ≡ round hs p
round_front hs more p h =
    let low : p ≤ length hs = omega arith in
    rw (get_front hs more p h, take-append-le p hs more low) refl

get_last : (hs : List ℕ) (x : ℕ) → get_or (hs ++ x ∷ []) (length hs) 0 ≡ x
get_last hs x = get_or_at hs x [] 0 (length hs) refl

round_last : (hs : List ℕ) (x : ℕ) → round (hs ++ x ∷ []) (length hs) ≡ times x hs
round_last hs x = rw (get_last hs x, take_at hs (x ∷ []) (length hs) refl) refl

pub in_turn_push : (hs : List ℕ) (x : ℕ) → IsInTurn hs → AllBefore hs (times x hs) x → IsInTurn (hs ++ x ∷ [])
in_turn_push hs x turn all p q lower inside =
    let size = length_push hs x in
    let p_inside : p < length hs = omega arith in
    elim (cases_lt q (length hs)) [
      | inl q_inside ↦
          rw (round_front hs (x ∷ []) p p_inside, round_front hs (x ∷ []) q q_inside, get_front hs (x ∷ []) p p_inside, get_front hs (x ∷ []) q q_inside)
          (turn p q lower q_inside)
      | inr above ↦
          let last : q ≡ length hs = omega arith in
          rw (last, round_front hs (x ∷ []) p p_inside, round_last hs x, get_front hs (x ∷ []) p p_inside, get_last hs x) (all p p_inside)
    ]

pub all_before_push : (hs : List ℕ) (x k h : ℕ) → AllBefore hs k h → StandsBefore (times x hs) x k h → AllBefore (hs ++ x ∷ []) k h
all_before_push hs x k h all last p inside =
    let size = length_push hs x in
    elim (cases_lt p (length hs)) [
      | inl p_inside ↦ rw (round_front hs (x ∷ []) p p_inside, get_front hs (x ∷ []) p p_inside) (all p p_inside)
      | inr above ↦
          let at_end : p ≡ length hs = omega arith in
          rw (at_end, round_last hs x, get_last hs x) last
    ]

pub all_before_weaker : (hs : List ℕ) (k h l i : ℕ) → AllBefore hs k h → StandsBefore k h l i → AllBefore hs l i
all_before_weaker hs k h l i all next p inside = before_trans (round hs p) (get_or hs p 0) k h l i (all p inside) next

-- two jobs in a list in turn
pub in_turn_pair : (front : List ℕ) (x : ℕ) (between : List ℕ) (y : ℕ) (after : List ℕ)
    → IsInTurn (front ++ x ∷ (between ++ y ∷ after))
    → StandsBefore (times x front) x (times y (front ++ x ∷ between)) y
in_turn_pair front x between y after turn =
    let whole = front ++ x ∷ (between ++ y ∷ after) in
    let near = front ++ x ∷ between in
    let split : whole ≡ near ++ y ∷ after = sym (append_assoc front (x ∷ between) (y ∷ after)) in
    let size : length whole ≡ length near + length (y ∷ after) = rw split (length-append near (y ∷ after)) in
    let near_size : length near ≡ length front + length (x ∷ between) = length-append front (x ∷ between) in
    let x_there : get_or whole (length front) 0 ≡ x = get_or_at front x (between ++ y ∷ after) 0 (length front) refl in
    let x_before : take (length front) whole ≡ front = take_at front (x ∷ (between ++ y ∷ after)) (length front) refl in
    let y_there : get_or whole (length near) 0 ≡ y = rw split (get_or_at near y after 0 (length near) refl) in
    let y_before : take (length near) whole ≡ near = rw split (take_at near (y ∷ after) (length near) refl) in
    let stands = turn (length front) (length near) (omega arith) (omega arith) in
    rw (x_there, x_before, y_there, y_before) at stands
