-- Where the parts that a record shows come from.
use Rattle.std.proofs.Common.{◌≡◌, ℕ, zero, suc, ◌+◌, List, [], ◌∷◌, refl, sym, subst, ap, inl, inr, arith, nat_eq}
use Rattle.std.proofs.lemmas.Bool.Decides.{Decides-eqb}
use mathlib.Core.Option.{some, some-injective}
use Rattle.nvm_record.specs.Lists.{IsAt}
use Rattle.nvm_plan.specs.declared.part.Part.{Part}
use Rattle.nvm_audit.specs.RecordedJob.{RecordedJob}
use Rattle.nvm_audit.specs.RecordedPart.{RecordedPart, parts_left, parts_of_work, parts_of_workers, parts_in_unit}
use Rattle.nvm_audit.proofs.Standing.{Stands, none_stands, in_append, in_filter, in_flat_map}

-- It is a part of a job that its worker did.
pub record ComesFrom (done : List (List RecordedJob)) (p : RecordedPart) : Type 0 where
  pub work : List RecordedJob
  pub worker : IsAt done p.worker work
  pub job : Stands work p.done
  pub part : Stands p.done.parts p.part

record IsOfJob (worker : ℕ) (done : RecordedJob) (parts : List Part) (p : RecordedPart) : Type 0 where
  pub worker_is : p.worker ≡ worker
  pub done_is : p.done ≡ done
  pub part : Stands parts p.part

of_job : (worker : ℕ) (done : RecordedJob) (parts : List Part) (i : ℕ) (p : RecordedPart) → IsAt (parts_left worker done parts) i p
    → IsOfJob worker done parts p
of_job worker done [] i p e = absurd (none_stands i p e)
of_job worker done (part ∷ []) zero p e =
    let same = sym (some-injective _ p e) in
    record { worker_is = ap (λ q. q.worker) same; done_is = ap (λ q. q.done) same; part = (zero, ap some (ap (λ q. q.part) (sym same))) }
of_job worker done (part ∷ []) (suc i) p e = absurd (none_stands i p e)
of_job worker done (part ∷ next ∷ parts) zero p e =
    let same = sym (some-injective _ p e) in
    record { worker_is = ap (λ q. q.worker) same; done_is = ap (λ q. q.done) same; part = (zero, ap some (ap (λ q. q.part) (sym same))) }
of_job worker done (part ∷ next ∷ parts) (suc i) p e =
    let rest = of_job worker done (next ∷ parts) i p e in
    record { worker_is = rest.worker_is; done_is = rest.done_is; part = (suc rest.part.0, rest.part.1) }

record IsOfWork (worker : ℕ) (work : List RecordedJob) (p : RecordedPart) : Type 0 where
  pub worker_is : p.worker ≡ worker
  pub job : Stands work p.done
  pub part : Stands p.done.parts p.part

of_work : (worker : ℕ) (work : List RecordedJob) (i : ℕ) (p : RecordedPart) → IsAt (parts_of_work worker work) i p
    → IsOfWork worker work p
of_work worker work i p e =
    let found = in_flat_map (λ done. parts_left worker done done.parts) work i p e in
    let from = of_job worker found.0 found.0.parts found.2.0 p found.2.1 in
    record { worker_is = from.worker_is; job = rw from.done_is found.1; part = rw from.done_is from.part }

-- A part of these workers, the first of which has this number.
record IsOfWorkers (first : ℕ) (done : List (List RecordedJob)) (p : RecordedPart) : Type 0 where
  pub work : List RecordedJob
  pub place : ℕ
  pub worker_is : p.worker ≡ first + place
  pub there : IsAt done place work
  pub job : Stands work p.done
  pub part : Stands p.done.parts p.part

of_workers : (first : ℕ) (done : List (List RecordedJob)) (i : ℕ) (p : RecordedPart) → IsAt (parts_of_workers first done) i p
    → IsOfWorkers first done p
of_workers first [] i p e = absurd (none_stands i p e)
of_workers first (work ∷ rest) i p e = elim (in_append (parts_of_work first work) (parts_of_workers (first + 1) rest) i p e) [
  | inl here ↦
      let from = of_work first work here.0 p here.1 in
      let number : p.worker ≡ first = from.worker_is in
      record { work = work; place = 0; worker_is = omega arith; there = refl; job = from.job; part = from.part }
  | inr after ↦
      let from = of_workers (first + 1) rest after.0 p after.1 in
      let number : p.worker ≡ first + 1 + from.place = from.worker_is in
      record { work = from.work; place = suc from.place; worker_is = omega arith; there = from.there; job = from.job; part = from.part }
]

pub comes_from : (unit : ℕ) (done : List (List RecordedJob)) (i : ℕ) (p : RecordedPart) → IsAt (parts_in_unit unit done) i p
    → ComesFrom done p × (p.part.unit ≡ unit)
comes_from unit done i p e =
    let found = in_filter (λ q. nat_eq q.part.unit unit) (parts_of_workers 0 done) i p e in
    let from = of_workers 0 done found.1.0 p found.1.1 in
    let number : p.worker ≡ 0 + from.place = from.worker_is in
    let place_is : from.place ≡ p.worker = omega arith in
    (record { work = from.work; worker = subst (λ (n : ℕ). IsAt done n from.work) place_is from.there; job = from.job; part = from.part }, (Decides-eqb p.part.unit unit).0 found.0)
