-- One more position of an order that keeps time.
use Rattle.std.proofs.Common.{◌≡◌, Option, Some, None, refl, ℕ, ◌+◌, ◌<◌, ◌≤◌, inl, inr, IfSome, length, max, subst, arith}
use Rattle.nvm_standard.specs.PointView.{PointView, TableView}
use Rattle.nvm_standard.specs.Clauses.{KeepsTime}
use Rattle.nvm_standard.specs.Inside.Timely.{KeepsTimeTo, BeganBy}
use Rattle.nvm_standard.specs.OrderView.{OrderView, PlacedView}
use Rattle.nvm_standard.specs.Places.{StandsAt}
use Rattle.nvm_standard.proofs.Standing.{earlier_or_last, same_point, within, in_time}

-- what is before the last position is in time there
at_last : (t : TableView) (o : OrderView) (k time : ℕ) (p0 : PlacedView) (q0 : PointView) → StandsAt t o k p0 q0
    → IfSome q0.until (λ w. time ≤ w) → BeganBy t o k time
    → (i : ℕ) (p p' : PlacedView) (q q' : PointView) → i < k → StandsAt t o i p q → StandsAt t o k p' q'
    → IfSome q'.until (λ w. q.from ≤ w)
at_last t o k time p0 q0 s0 intime began i p p' q q' less s s' =
    subst (λ (r : PointView). IfSome r.until (λ w. q.from ≤ w)) (same_point t o k p0 p' q0 q' s0 s')
    (in_time q0.until q.from time (began i p q less s) intime)

pub keeps_more : (t : TableView) (o : OrderView) (k time : ℕ) (p0 : PlacedView) (q0 : PointView) → StandsAt t o k p0 q0
    → IfSome q0.until (λ w. time ≤ w) → BeganBy t o k time → KeepsTimeTo t o k → KeepsTimeTo t o (k + 1)
keeps_more t o k time p0 q0 s0 intime began kept i j p p' q q' less below s s' =
    elim (earlier_or_last j k below) [
      | inl h ↦ kept i j p p' q q' less h s s'
      | inr e ↦
          at_last t o k time p0 q0 s0 intime began i p p' q q' (omega (arith, less, e)) s
          (subst (λ (m : ℕ). StandsAt t o m p' q') e s')
    ]

pub began_more : (t : TableView) (o : OrderView) (k time : ℕ) (p0 : PlacedView) (q0 : PointView) → StandsAt t o k p0 q0
    → BeganBy t o k time → BeganBy t o (k + 1) (max q0.from time)
began_more t o k time p0 q0 s0 began i p q below s =
    elim (earlier_or_last i k below) [
      | inl h ↦ let old : q.from ≤ time = began i p q h s in omega arith
      | inr e ↦
          subst (λ (r : PointView). r.from ≤ max q0.from time) (same_point t o k p0 p q0 q s0 (subst (λ (m : ℕ). StandsAt t o m p q) e s))
          (omega arith)
    ]

pub keeps_all : (t : TableView) (o : OrderView) (k : ℕ) → length o.placed ≤ k → KeepsTimeTo t o k → KeepsTime t o
keeps_all t o k long kept i j p p' q q' less s s' =
    let inside = within t o j p' q' s' in kept i j p p' q q' less (omega (arith, inside, long)) s s'

-- A time by which all began is the least such with one more position.
pub least_more : (t : TableView) (o : OrderView) (k time : ℕ) (p0 : PlacedView) (q0 : PointView) → StandsAt t o k p0 q0
    → ((m : ℕ) → BeganBy t o k m → time ≤ m) → (m : ℕ) → BeganBy t o (k + 1) m → max q0.from time ≤ m
least_more t o k time p0 q0 s0 least m by =
    let here : q0.from ≤ m = by k p0 q0 (omega arith) s0 in
    let before : time ≤ m = least m (λ i p q less s. by i p q (omega arith) s) in omega arith

until_least : (t : TableView) (o : OrderView) (k time : ℕ) (p0 : PlacedView) (q0 : PointView) (until : Option ℕ) → q0.until ≡ until → StandsAt t o k p0 q0
    → ((m : ℕ) → BeganBy t o k m → time ≤ m) → KeepsTime t o → IfSome until (λ w. time ≤ w)
until_least t o k time p0 q0 None e s0 least keeps = tt
until_least t o k time p0 q0 (Some u) e s0 least keeps =
    least u (λ i p q less s. subst (λ (r : Option ℕ). IfSome r (λ w. q.from ≤ w)) e (keeps i k p p0 q q0 less s s0))

-- In an order that keeps time the next position is in time.
pub next_in_time : (t : TableView) (o : OrderView) (k time : ℕ) (p0 : PlacedView) (q0 : PointView) → StandsAt t o k p0 q0
    → ((m : ℕ) → BeganBy t o k m → time ≤ m) → KeepsTime t o → IfSome q0.until (λ w. time ≤ w)
next_in_time t o k time p0 q0 s0 least keeps = until_least t o k time p0 q0 q0.until refl s0 least keeps
