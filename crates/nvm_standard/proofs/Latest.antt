-- One more position, and the times of what was surely put.
use Rattle.std.proofs.Common.{Option, Some, None, ap, refl, replicate, ◌≡◌, ℕ, ◌+◌, ◌<◌, ◌≤◌, inl, inr, true, List, IfSome, length, slice_index, subst, ◌∙◌, arith}
use Rattle.std.proofs.lemmas.List.{length-replicate}
use Rattle.nvm_standard.specs.PointView.{PointView, TableView}
use Rattle.nvm_standard.specs.declared.point.Presence.TheVariants.{Sure}
use Rattle.nvm_standard.specs.Clauses.{KeepsDeallocates, is_put}
use Rattle.nvm_standard.specs.Inside.Latest.{AreLatest, AreLeast, KeepsDeallocatesTo}
use Rattle.nvm_standard.specs.OrderView.{OrderView, PlacedView}
use Rattle.nvm_standard.specs.Places.{StandsAt, HasBlock}
use Rattle.nvm_standard.proofs.RowsMore.{no_places}
use Rattle.nvm_standard.proofs.Standing.{earlier_or_last, same_placed, same_point, within, in_time}

-- the facts of the last position, of whatever stands there
moved : (t : TableView) (o : OrderView) (i k : ℕ) (p : PlacedView) (q : PointView) → i ≡ k → StandsAt t o i p q → StandsAt t o k p q
moved t o i k p q e s = subst (λ (m : ℕ). StandsAt t o m p q) e s

pub latest_more : (t : TableView) (o : OrderView) (k : ℕ) (p0 : PlacedView) (q0 : PointView) (old new : List ℕ)
    → StandsAt t o k p0 q0 → AreLatest t o k old → length new ≡ length old
    → ((x : ℕ) → slice_index old x ≤ slice_index new x) → ((x : ℕ) → HasBlock p0 x → q0.from ≤ slice_index new x)
    → AreLatest t o (k + 1) new
latest_more t o k p0 q0 old new s0 are long kept raised =
    record {
      all = long ∙ are.all;
      each = λ i x p q below s sure put has.
          elim (earlier_or_last i k below) [
            | inl h ↦ let low : q.from ≤ slice_index old x = are.each i x p q h s sure put has in
                let up : slice_index old x ≤ slice_index new x = kept x in omega arith
            | inr e ↦
                let s' : StandsAt t o k p q = moved t o i k p q e s in
                subst (λ (r : PointView). r.from ≤ slice_index new x) (same_point t o k p0 p q0 q s0 s')
                (raised x (subst (λ (r : PlacedView). HasBlock r x) (same_placed t o k p p0 q q0 s' s0) has))
          ];
    }

pub latest_same : (t : TableView) (o : OrderView) (k : ℕ) (p0 : PlacedView) (q0 : PointView) (old : List ℕ)
    → StandsAt t o k p0 q0 → AreLatest t o k old → (q0.presence ≡ Sure → is_put q0.put ≡ true → ⊥) → AreLatest t o (k + 1) old
latest_same t o k p0 q0 old s0 are not_sure =
    record {
      all = are.all;
      each = λ i x p q below s sure put has.
          elim (earlier_or_last i k below) [
            | inl h ↦ are.each i x p q h s sure put has
            | inr e ↦
                let same : q ≡ q0 = same_point t o k p p0 q q0 (moved t o i k p q e s) s0 in
                absurd (not_sure (subst (λ (r : PointView). r.presence ≡ Sure) same sure) (subst (λ (r : PointView). is_put r.put ≡ true) same put))
          ];
    }

at_last : (t : TableView) (o : OrderView) (k : ℕ) (p0 : PlacedView) (q0 : PointView) (latest : List ℕ)
    → StandsAt t o k p0 q0 → AreLatest t o k latest
    → ((x : ℕ) → HasBlock p0 x → IfSome q0.over (λ w. slice_index latest x ≤ w))
    → (i x : ℕ) (p p' : PlacedView) (q q' : PointView) → i < k
    → StandsAt t o i p q → q.presence ≡ Sure → is_put q.put ≡ true → HasBlock p x
    → StandsAt t o k p' q' → HasBlock p' x → IfSome q'.over (λ w. q.from ≤ w)
at_last t o k p0 q0 latest s0 are over i x p p' q q' less s sure put has s' has' =
    let has0 : HasBlock p0 x = subst (λ (r : PlacedView). HasBlock r x) (same_placed t o k p' p0 q' q0 s' s0) has' in
    subst (λ (r : PointView). IfSome r.over (λ w. q.from ≤ w)) (same_point t o k p0 p' q0 q' s0 s')
    (in_time q0.over q.from (slice_index latest x) (are.each i x p q less s sure put has) (over x has0))

pub keeps_more : (t : TableView) (o : OrderView) (k : ℕ) (p0 : PlacedView) (q0 : PointView) (latest : List ℕ)
    → StandsAt t o k p0 q0 → AreLatest t o k latest
    → ((x : ℕ) → HasBlock p0 x → IfSome q0.over (λ w. slice_index latest x ≤ w))
    → KeepsDeallocatesTo t o k → KeepsDeallocatesTo t o (k + 1)
keeps_more t o k p0 q0 latest s0 are over kept i j x p p' q q' less below s sure put has s' has' =
    elim (earlier_or_last j k below) [
      | inl h ↦ kept i j x p p' q q' less h s sure put has s' has'
      | inr e ↦
          at_last t o k p0 q0 latest s0 are over i x p p' q q' (omega (arith, less, e)) s sure put has (moved t o j k p' q' e s') has'
    ]

pub keeps_all : (t : TableView) (o : OrderView) (k : ℕ) → length o.placed ≤ k → KeepsDeallocatesTo t o k → KeepsDeallocates t o
keeps_all t o k long kept i j x p p' q q' less s sure put has s' has' =
    let inside = within t o j p' q' s' in kept i j x p p' q q' less (omega (arith, inside, long)) s sure put has s' has'

over_least : (t : TableView) (o : OrderView) (k x : ℕ) (p0 : PlacedView) (q0 : PointView) (latest : List ℕ) (over : Option ℕ) → q0.over ≡ over
    → StandsAt t o k p0 q0 → AreLeast t o k latest → KeepsDeallocates t o → HasBlock p0 x → IfSome over (λ w. slice_index latest x ≤ w)
over_least t o k x p0 q0 latest None e s0 least keeps has = tt
over_least t o k x p0 q0 latest (Some u) e s0 least keeps has =
    least x u
    (λ i p q less s sure put has'.
    subst (λ (r : Option ℕ). IfSome r (λ w. q.from ≤ w)) e (keeps i k x p p0 q q0 less s sure put has' s0 has))

-- In an order in which no Deallocate is late the next position isn't.
pub next_not_late : (t : TableView) (o : OrderView) (k : ℕ) (p0 : PlacedView) (q0 : PointView) (latest : List ℕ)
    → StandsAt t o k p0 q0 → AreLeast t o k latest → KeepsDeallocates t o
    → (x : ℕ) → HasBlock p0 x → IfSome q0.over (λ w. slice_index latest x ≤ w)
next_not_late t o k p0 q0 latest s0 least keeps x has = over_least t o k x p0 q0 latest q0.over refl s0 least keeps has

pub none_latest : (t : TableView) (o : OrderView) (latest : List ℕ) → latest ≡ replicate t.nsze 0 → AreLatest t o 0 latest
none_latest t o latest is =
    record {
      all = ap length is ∙ length-replicate t.nsze 0;
      each = λ i x p q less s sure put has. absurd (omega arith);
    }

pub none_least : (t : TableView) (o : OrderView) (latest : List ℕ) → latest ≡ replicate t.nsze 0 → AreLeast t o 0 latest
none_least t o latest is x m bound =
    let none = no_places t.nsze x in
    let here = ap (λ (r : List ℕ). slice_index r x) is in omega (arith, none, here)
