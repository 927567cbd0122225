-- What one pass did of its port's parts: those that are of its unit, one after the other.
use Rattle.std.proofs.Common.{◌≡◌, ◌⊎◌, ℕ, zero, suc, ◌<◌, ◌≤◌, List, [], ◌∷◌, length, subst, refl, sym, ap, ◌∙◌, arith, inl, inr}
use mathlib.Core.Option.{some-injective}
use Rattle.nvm_record.specs.Lists.{IsAt}
use Rattle.nvm_geometry.specs.Namespace.{Namespace}
use Rattle.nvm_plan.specs.declared.job.Job.{Job}
use Rattle.nvm_store.specs.HistoryEntry.{HistoryEntry}
use Rattle.nvm_unit.specs.declared.views.PassView.{PassView}
use Rattle.nvm_unit.specs.Views.{Begins}
use Rattle.nvm_audit.specs.PointOrder.{least_after}
use Rattle.nvm_audit.specs.RecordedPart.{RecordedPart}
use Rattle.nvm_engine.proofs.InLists.{Stands, none_there}
use Rattle.nvm_engine.proofs.KnownLaws.{MarkLaws, HistoryLaws}
use Rattle.nvm_engine.proofs.PartTaken.{IsTaken, IsLeft, MadeIt, left_so}

-- The pass of the unit did the part, if it is one of the unit, and else nothing.
abbrev pub TakesIts : Namespace → List Job → ℕ → RecordedPart → PassView → PassView → Type 0
TakesIts ns jobs unit x p q = ((x.part.unit ≡ unit) × IsTaken ns jobs x p q) ⊎ ((x.part.unit ≡ unit → ⊥) × (q ≡ p))

-- The pass of the unit did all those of the parts that are of the unit.
abbrev pub TakesAll : Namespace → List Job → ℕ → List RecordedPart → PassView → PassView → Type 0
TakesAll ns jobs unit [] p q = q ≡ p
TakesAll ns jobs unit (x ∷ xs) p q =
    (between : PassView) × TakesIts ns jobs unit x p between × TakesAll ns jobs unit xs between q

-- The pass did the part between what it was first and what it was last.
pub record IsTakenBetween (ns : Namespace) (jobs : List Job) (x : RecordedPart) (first last : PassView) : Type 0 where
  pub before : PassView
  pub after : PassView
  pub taken : IsTaken ns jobs x before after
  pub left : IsLeft ns jobs x before after
  pub number : before.number ≡ first.number
  pub bounds : before.bounds ≡ first.bounds
  pub seen : Begins first.seen before.seen
  pub rest : Begins after.seen last.seen

-- One of the parts made the entry.
pub record IsMadeAmong (ns : Namespace) (jobs : List Job) (unit number n : ℕ) (entry : HistoryEntry)
    (xs : List RecordedPart) : Type 0 where
  pub place : ℕ
  pub part : RecordedPart
  pub at : IsAt xs place part
  pub in_unit : part.part.unit ≡ unit
  pub made : MadeIt ns jobs number n entry part

-- What the pass keeps.
pub record IsKept (p q : PassView) : Type 0 where
  pub number : q.number ≡ p.number
  pub bounds : q.bounds ≡ p.bounds
  pub seen : Begins p.seen q.seen

module _ (marks : MarkLaws) (histories : HistoryLaws) (ns : Namespace) (jobs : List Job) (unit : ℕ) where
  same_kept : (p q : PassView) → q ≡ p → IsKept p q
  same_kept p q same = record {
    number = ap (λ (v : PassView). v.number) same;
    bounds = ap (λ (v : PassView). v.bounds) same;
    seen = subst (λ (v : PassView). Begins p.seen v.seen) (sym same) (histories.itself p.seen);
  }

  step_kept : (x : RecordedPart) (p q : PassView) → TakesIts ns jobs unit x p q → IsKept p q
  step_kept x p q (inl its) =
      let left = left_so ns jobs marks x p q its.1 in
      record { number = left.number; bounds = left.bounds; seen = left.marked.seen }
  step_kept x p q (inr other) = same_kept p q other.1

  pub all_kept : (xs : List RecordedPart) (p q : PassView) → TakesAll ns jobs unit xs p q → IsKept p q
  all_kept [] p q takes = same_kept p q takes
  all_kept (x ∷ xs) p q takes =
      let first = step_kept x p takes.0 takes.1 in
      let rest = all_kept xs takes.0 q takes.2 in
      record {
        number = rest.number ∙ first.number;
        bounds = rest.bounds ∙ first.bounds;
        seen = histories.further p.seen takes.0.seen q.seen first.seen rest.seen;
      }

  pub taken_at : (xs : List RecordedPart) (p q : PassView) → TakesAll ns jobs unit xs p q → (i : ℕ) (x : RecordedPart)
      → IsAt xs i x
      → x.part.unit ≡ unit → IsTakenBetween ns jobs x p q
  taken_at [] p q takes i x at in_unit = absurd (none_there i x at)
  taken_at (y ∷ ys) p q takes zero x at in_unit =
      let same : y ≡ x = some-injective y x at in
      here (subst (λ (z : RecordedPart). TakesIts ns jobs unit z p takes.0) same takes.1)
    where
      here : TakesIts ns jobs unit x p takes.0 → IsTakenBetween ns jobs x p q
      here (inl its) = record {
        before = p;
        after = takes.0;
        taken = its.1;
        left = left_so ns jobs marks x p takes.0 its.1;
        number = refl;
        bounds = refl;
        seen = histories.itself p.seen;
        rest = (all_kept ys takes.0 q takes.2).seen;
      }
      here (inr other) = absurd (other.0 in_unit)
  taken_at (y ∷ ys) p q takes (suc i) x at in_unit =
      let first = step_kept y p takes.0 takes.1 in
      let rest = taken_at ys takes.0 q takes.2 i x at in_unit in
      record {
        before = rest.before;
        after = rest.after;
        taken = rest.taken;
        left = rest.left;
        number = rest.number ∙ first.number;
        bounds = rest.bounds ∙ first.bounds;
        seen = histories.further p.seen takes.0.seen rest.before.seen first.seen rest.seen;
        rest = rest.rest;
      }

  -- The points of the unit's parts never go back.
  pub never_back : (xs : List RecordedPart) (p q : PassView) → TakesAll ns jobs unit xs p q → (i j : ℕ) (x y : RecordedPart)
      → IsAt xs i x → IsAt xs j y → i < j → x.part.unit ≡ unit → y.part.unit ≡ unit
      → least_after x.part x.part.result ≤ y.part.point
  never_back [] p q takes i j x y first second lt in_unit also = absurd (none_there i x first)
  never_back (z ∷ zs) p q takes i zero x y first second lt in_unit also = absurd (omega arith)
  never_back (z ∷ zs) p q takes zero (suc j) x y first second lt in_unit also =
      let same : z ≡ x = some-injective z x first in
      here (subst (λ (u : RecordedPart). TakesIts ns jobs unit u p takes.0) same takes.1)
    where
      here : TakesIts ns jobs unit x p takes.0 → least_after x.part x.part.result ≤ y.part.point
      here (inl its) =
          let left = left_so ns jobs marks x p takes.0 its.1 in
          let later = taken_at zs takes.0 q takes.2 j y second also in
          let least : least_after x.part x.part.result ≡ length takes.0.seen = left.least in
          let more : length takes.0.seen ≤ length later.before.seen =
          histories.no_longer takes.0.seen later.before.seen later.seen in
          let within : length later.before.seen ≤ y.part.point = later.left.marked.within in
          omega (arith, least, more, within)
      here (inr other) = absurd (other.0 in_unit)
  never_back (z ∷ zs) p q takes (suc i) (suc j) x y first second lt in_unit also =
      never_back zs takes.0 q takes.2 i j x y first second (omega arith) in_unit also

  -- Each entry that the pass has made, it had made before, or one of the unit's parts made it.
  pub made_among : (xs : List RecordedPart) (p q : PassView) → TakesAll ns jobs unit xs p q → (i n : ℕ) (entry : HistoryEntry)
      → IsAt q.mine i (n, entry) → Stands p.mine (n, entry) ⊎ IsMadeAmong ns jobs unit p.number n entry xs
  made_among [] p q takes i n entry at = inl (i, subst (λ (v : PassView). IsAt v.mine i (n, entry)) takes at)
  made_among (x ∷ xs) p q takes i n entry at = by (made_among xs takes.0 q takes.2 i n entry at) takes.1
    where
      by : Stands takes.0.mine (n, entry) ⊎ IsMadeAmong ns jobs unit takes.0.number n entry xs
          → TakesIts ns jobs unit x p takes.0
          → Stands p.mine (n, entry) ⊎ IsMadeAmong ns jobs unit p.number n entry (x ∷ xs)
      by (inr later) first =
          let kept = step_kept x p takes.0 first in
          inr (record {
            place = suc later.place;
            part = later.part;
            at = later.at;
            in_unit = later.in_unit;
            made = subst (λ (number : ℕ). MadeIt ns jobs number n entry later.part) kept.number later.made;
          })
      by (inl before) (inl its) = elim ((left_so ns jobs marks x p takes.0 its.1).mine before.0 n entry before.1) [
        | inl there ↦ inl there
        | inr new ↦ inr (record { place = 0; part = x; at = refl; in_unit = its.0; made = new })
      ]
      by (inl before) (inr other) = inl (before.0, subst (λ (v : PassView). IsAt v.mine before.0 (n, entry)) other.1 before.1)
