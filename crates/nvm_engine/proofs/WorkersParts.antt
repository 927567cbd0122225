-- Which worker's a part of a record is, and the order in which it is there.
use Rattle.std.proofs.Common.{◌≡◌, ◌⊎◌, ℕ, zero, suc, ◌+◌, ◌<◌, List, [], ◌∷◌, length, subst, refl, sym, ap, arith, inl, inr, nat_eq}
use Rattle.std.proofs.lemmas.Bool.Decides.{Decides-eqb}
use mathlib.Core.Option.{some-injective}
use Rattle.nvm_record.specs.Lists.{IsAt}
use Rattle.nvm_plan.specs.declared.part.Part.{Part}
use Rattle.nvm_audit.specs.RecordedJob.{RecordedJob}
use Rattle.nvm_audit.specs.RecordedPart.{RecordedPart, parts_left, parts_of_work, parts_of_workers, parts_in_unit}
use Rattle.nvm_engine.proofs.InLists.{Stands, StandInOrder, none_there, in_either, in_front, behind, passes, passes_back, keep_order}

left_by : (worker : ℕ) (d : RecordedJob) (parts : List Part) (i : ℕ) (x : RecordedPart) → IsAt (parts_left worker d parts) i x
    → x.worker ≡ worker
left_by worker d [] i x at = absurd (none_there i x at)
left_by worker d (part ∷ []) zero x at = ap (λ (y : RecordedPart). y.worker) (sym (some-injective _ x at))
left_by worker d (part ∷ []) (suc i) x at = absurd (none_there i x at)
left_by worker d (part ∷ next ∷ parts) zero x at = ap (λ (y : RecordedPart). y.worker) (sym (some-injective _ x at))
left_by worker d (part ∷ next ∷ parts) (suc i) x at = left_by worker d (next ∷ parts) i x at

-- The parts of a worker's work have its number.
pub work_by : (worker : ℕ) (work : List RecordedJob) (i : ℕ) (x : RecordedPart) → IsAt (parts_of_work worker work) i x
    → x.worker ≡ worker
work_by worker [] i x at = absurd (none_there i x at)
work_by worker (d ∷ work) i x at = elim (in_either (parts_left worker d d.parts) (parts_of_work worker work) i x at) [
  | inl here ↦ left_by worker d d.parts i x here.1
  | inr after ↦ work_by worker work after.0 x after.2
]

-- The part is one of this work's, whose worker it names.
pub record IsOfWork (done : List (List RecordedJob)) (x : RecordedPart) : Type 0 where
  pub work : List RecordedJob
  pub there : IsAt done x.worker work
  pub place : ℕ
  pub at : IsAt (parts_of_work x.worker work) place x

-- The two parts are of one work, and are there in order.
pub record AreInWork (done : List (List RecordedJob)) (x y : RecordedPart) : Type 0 where
  pub work : List RecordedJob
  pub there : IsAt done x.worker work
  pub order : StandInOrder (parts_of_work x.worker work) x y

-- The same of workers, the first of which has this number.
record IsOfWorkers (first : ℕ) (done : List (List RecordedJob)) (x : RecordedPart) : Type 0 where
  pub nth : ℕ
  pub number : x.worker ≡ first + nth
  pub work : List RecordedJob
  pub there : IsAt done nth work
  pub place : ℕ
  pub at : IsAt (parts_of_work x.worker work) place x

record AreInWorkOf (first : ℕ) (done : List (List RecordedJob)) (x y : RecordedPart) : Type 0 where
  pub nth : ℕ
  pub number : x.worker ≡ first + nth
  pub work : List RecordedJob
  pub there : IsAt done nth work
  pub order : StandInOrder (parts_of_work x.worker work) x y

of_workers : (first : ℕ) (done : List (List RecordedJob)) (i : ℕ) (x : RecordedPart) → IsAt (parts_of_workers first done) i x
    → IsOfWorkers first done x
of_workers first [] i x at = absurd (none_there i x at)
of_workers first (work ∷ done) i x at = elim (in_either (parts_of_work first work) (parts_of_workers (first + 1) done) i x at) [
  | inl here ↦
      let number : x.worker ≡ first = work_by first work i x here.1 in
      record {
        nth = 0;
        number = omega arith;
        work = work;
        there = refl;
        place = i;
        at = subst (λ (n : ℕ). IsAt (parts_of_work n work) i x) (sym number) here.1;
      }
  | inr after ↦
      let rest = of_workers (first + 1) done after.0 x after.2 in
      let number : x.worker ≡ first + 1 + rest.nth = rest.number in
      record {
        nth = suc rest.nth;
        number = omega arith;
        work = rest.work;
        there = rest.there;
        place = rest.place;
        at = rest.at;
      }
]

-- It is in the first worker's work, or in that of a later one.
abbrev InEither : ℕ → List RecordedJob → List (List RecordedJob) → ℕ → RecordedPart → Type 0
InEither first work done i x =
    ((i < length (parts_of_work first work)) × IsAt (parts_of_work first work) i x)
    ⊎ ((j : ℕ) × (i ≡ length (parts_of_work first work) + j) × IsAt (parts_of_workers (first + 1) done) j x)

both_in : (first : ℕ) (work : List RecordedJob) (done : List (List RecordedJob)) (i j : ℕ) (x y : RecordedPart)
    → ((a b : ℕ) → IsAt (parts_of_workers (first + 1) done) a x → IsAt (parts_of_workers (first + 1) done) b y → a < b
    → AreInWorkOf (first + 1) done x y)
    → i < j → y.worker ≡ x.worker → InEither first work done i x → InEither first work done j y
    → AreInWorkOf first (work ∷ done) x y
both_in first work done i j x y rest lt same (inl here) (inl there) =
    let number : x.worker ≡ first = work_by first work i x here.1 in
    record {
      nth = 0;
      number = omega arith;
      work = work;
      there = refl;
      order = subst (λ (n : ℕ). StandInOrder (parts_of_work n work) x y) (sym number)
          (record { first = i; second = j; first_at = here.1; second_at = there.1; before = lt });
    }
both_in first work done i j x y rest lt same (inl here) (inr later) =
    let number : x.worker ≡ first = work_by first work i x here.1 in
    let other = of_workers (first + 1) done later.0 y later.2 in
    let above : y.worker ≡ first + 1 + other.nth = other.number in
    absurd (omega arith)
both_in first work done i j x y rest lt same (inr later) (inl here) =
    let far : i ≡ length (parts_of_work first work) + later.0 = later.1 in
    let near : j < length (parts_of_work first work) = here.0 in
    absurd (omega arith)
both_in first work done i j x y rest lt same (inr one) (inr other) =
    let far : i ≡ length (parts_of_work first work) + one.0 = one.1 in
    let also : j ≡ length (parts_of_work first work) + other.0 = other.1 in
    let both = rest one.0 other.0 one.2 other.2 (omega arith) in
    let number : x.worker ≡ first + 1 + both.nth = both.number in
    record { nth = suc both.nth; number = omega arith; work = both.work; there = both.there; order = both.order }

in_work_of : (first : ℕ) (done : List (List RecordedJob)) (i j : ℕ) (x y : RecordedPart)
    → IsAt (parts_of_workers first done) i x
    → IsAt (parts_of_workers first done) j y → i < j → y.worker ≡ x.worker → AreInWorkOf first done x y
in_work_of first [] i j x y at also lt same = absurd (none_there i x at)
in_work_of first (work ∷ done) i j x y at also lt same =
    both_in first work done i j x y (λ a b p q below. in_work_of (first + 1) done a b x y p q below same) lt same
    (in_either (parts_of_work first work) (parts_of_workers (first + 1) done) i x at)
    (in_either (parts_of_work first work) (parts_of_workers (first + 1) done) j y also)

-- What is in a worker's work is among the parts of all workers.
pub in_workers : (first nth n : ℕ) (done : List (List RecordedJob)) (work : List RecordedJob) (k : ℕ) (x : RecordedPart)
    → IsAt done nth work → n ≡ first + nth → IsAt (parts_of_work n work) k x → Stands (parts_of_workers first done) x
in_workers first nth n [] work k x there is at = absurd (none_there nth work there)
in_workers first zero n (other ∷ done) work k x there is at =
    let same : other ≡ work = some-injective other work there in
    let number : n ≡ first = omega arith in (
      k,
      in_front (parts_of_work first other) (parts_of_workers (first + 1) done) k x
          (subst (λ (w : List RecordedJob). IsAt (parts_of_work first w) k x) (sym same)
          (subst (λ (m : ℕ). IsAt (parts_of_work m work) k x) number at)),
    )
in_workers first (suc nth) n (other ∷ done) work k x there is at =
    let rest = in_workers (first + 1) nth n done work k x there (omega arith) at in (
      length (parts_of_work first other) + rest.0,
      behind (parts_of_work first other) (parts_of_workers (first + 1) done) (length (parts_of_work first other) + rest.0)
          rest.0 x refl rest.1,
    )

-- A part that names the unit is one of a worker's.
pub of_unit : (unit : ℕ) (done : List (List RecordedJob)) (i : ℕ) (x : RecordedPart) → IsAt (parts_in_unit unit done) i x
    → (x.part.unit ≡ unit) × IsOfWork done x
of_unit unit done i x at =
    let found = passes (λ p. nat_eq p.part.unit unit) (parts_of_workers 0 done) i x at in
    let of = of_workers 0 done found.1.0 x found.1.1 in
    let number : x.worker ≡ 0 + of.nth = of.number in
    let same : of.nth ≡ x.worker = omega arith in (
      (Decides-eqb x.part.unit unit).0 found.0,
      record { work = of.work; there = subst (λ (n : ℕ). IsAt done n of.work) same of.there; place = of.place; at = of.at },
    )

-- Two parts of one worker that name the unit are in order in its work.
pub unit_in_order : (unit : ℕ) (done : List (List RecordedJob)) (i j : ℕ) (x y : RecordedPart)
    → IsAt (parts_in_unit unit done) i x
    → IsAt (parts_in_unit unit done) j y → i < j → y.worker ≡ x.worker → AreInWork done x y
unit_in_order unit done i j x y at also lt same =
    let kept = keep_order (λ p. nat_eq p.part.unit unit) (parts_of_workers 0 done) i j x y at also lt in
    let both = in_work_of 0 done kept.first kept.second x y kept.first_at kept.second_at kept.before same in
    let number : x.worker ≡ 0 + both.nth = both.number in
    let is : both.nth ≡ x.worker = omega arith in
    record { work = both.work; there = subst (λ (n : ℕ). IsAt done n both.work) is both.there; order = both.order }

-- A worker's part in the unit is among the parts that name the unit.
pub in_unit_of : (unit worker : ℕ) (done : List (List RecordedJob)) (work : List RecordedJob) (k : ℕ) (x : RecordedPart)
    → IsAt done worker work
    → IsAt (parts_of_work worker work) k x → x.part.unit ≡ unit → Stands (parts_in_unit unit done) x
in_unit_of unit worker done work k x there at is =
    let stands = in_workers 0 worker worker done work k x there (let same : worker ≡ 0 + worker = omega arith in same) at in
    passes_back (λ p. nat_eq p.part.unit unit) (parts_of_workers 0 done) stands.0 x stands.1
    ((Decides-eqb x.part.unit unit).1 is)
