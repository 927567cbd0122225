-- Where the parts that name a unit come from, and that they are among the steps that a record shows.
use Rattle.std.proofs.Common.{◌≡◌, ℕ, zero, suc, ◌+◌, ◌<◌, nat_eq, List, [], ◌∷◌, length, filter, cond, Bool, true, false, Contains, refl, sym, subst, inl, inr, arith}
use Rattle.std.proofs.lemmas.Bool.{eqb-true}
use Rattle.std.proofs.lemmas.List.Elements.{Contains-append_cases}
use mathlib.Core.Option.{some-injective}
use Rattle.nvm_record.specs.Lists.{IsAt}
use Rattle.nvm_plan.specs.declared.part.Part.{Part}
use Rattle.nvm_plan.specs.declared.part.PartResult.{PartResult}
use Rattle.nvm_plan.specs.declared.part.PartResult.TheVariants.{Done, Failed, Looked, NoMemory, Full}
use Rattle.nvm_audit.specs.RecordedJob.{RecordedJob}
use Rattle.nvm_audit.specs.RecordedPart.{RecordedPart, recorded_part, parts_left, parts_of_work, parts_of_workers, parts_in_unit}
use Rattle.nvm_trace.specs.declared.step.Step.{Step}
use Rattle.nvm_trace.specs.declared.step.Times.{Times}
use Rattle.nvm_trace.specs.declared.traced_job.TracedJob.{TracedJob}
use Rattle.nvm_trace.specs.Linearization.{is_step}
use Rattle.nvm_trace.specs.Steps.{times_of, step_of, steps_by, steps_of_part, steps_of_job, steps_of_work, steps_of}
use Rattle.nvm_trace.proofs.Places.{none_stands, contained, placed, out_of_flat, into_flat}
use Rattle.nvm_trace.proofs.ShownSteps.{IsShownPart}
use Rattle.nvm_trace.proofs.Walk.{made_by, first_or_behind}

module _ {A : Type 0} where
  -- What passes a test is among all.
  pub out_of_filter : (f : A → Bool) (xs : List A) (i : ℕ) (x : A) → IsAt (filter f xs) i x → (f x ≡ true) × (k : ℕ) × IsAt xs k x
  out_of_filter f [] i x at = absurd (none_stands i x at)
  out_of_filter f (y ∷ ys) i x at = by (λ j e. out_of_filter f ys j x e) (f y) refl i at
    where
      by : ((j : ℕ) → IsAt (filter f ys) j x → (f x ≡ true) × (k : ℕ) × IsAt ys k x) → (b : Bool) → f y ≡ b → (i : ℕ)
          → IsAt (cond b (y ∷ filter f ys) (filter f ys)) i x → (f x ≡ true) × (k : ℕ) × IsAt (y ∷ ys) k x
      by behind true is zero at = (subst (λ (z : A). f z ≡ true) (some-injective y x at) is, 0, at)
      by behind true is (suc i) at = let rest = behind i at in (rest.0, suc rest.1, rest.2)
      by behind false is i at = let rest = behind i at in (rest.0, suc rest.1, rest.2)

-- This place is the last of n, or it isn't.
abbrev pub EndsAt : Bool → ℕ → ℕ → Type 0
EndsAt true i n = n ≡ i + 1
EndsAt false i n = i + 1 < n

-- The part at this place of the job's parts, and whether it is the last.
pub record IsPartAt (d : RecordedJob) (parts : List Part) (i : ℕ) (p : RecordedPart) : Type 0 where
  pub job : p.done ≡ d
  pub part : IsAt parts i p.part
  pub ends : EndsAt p.is_last i (length parts)

module _ (worker : ℕ) (d : RecordedJob) where
  part_at : (parts : List Part) (i : ℕ) (p : RecordedPart) → IsAt (parts_left worker d parts) i p → IsPartAt d parts i p
  part_at [] i p at = absurd (none_stands i p at)
  part_at (q ∷ []) zero p at =
      let same = some-injective (recorded_part worker d q true) p at in
      subst (λ (x : RecordedPart). IsPartAt d (q ∷ []) 0 x) same (record { job = refl; part = refl; ends = omega arith })
  part_at (q ∷ []) (suc i) p at = absurd (none_stands i p at)
  part_at (q ∷ next ∷ parts) zero p at =
      let same = some-injective (recorded_part worker d q false) p at in
      subst (λ (x : RecordedPart). IsPartAt d (q ∷ next ∷ parts) 0 x) same (record { job = refl; part = refl; ends = omega arith })
  part_at (q ∷ next ∷ parts) (suc i) p at =
      let rest = part_at (next ∷ parts) i p at in
      record { job = rest.job; part = rest.part; ends = later p.is_last rest.ends }
    where
      later : (b : Bool) → EndsAt b i (length (next ∷ parts)) → EndsAt b (suc i) (length (q ∷ next ∷ parts))
      later true ends = omega (arith, ends)
      later false ends = omega (arith, ends)

-- It is a part of a job that a worker did.
pub record Comes (done : List (List RecordedJob)) (p : RecordedPart) : Type 0 where
  pub shown : IsShownPart done p.done p.part
  pub ends : EndsAt p.is_last shown.i (length p.done.parts)

come_of_work : (done : List (List RecordedJob)) (worker number : ℕ) (work : List RecordedJob) → IsAt done number work → (p : RecordedPart)
    → Contains (parts_of_work worker work) p → Comes done p
come_of_work done worker number work by p has =
    let from = out_of_flat (λ d. parts_left worker d d.parts) work p has in
    let d = from.1 in
    let at = placed (parts_left worker d d.parts) p from.3 in
    let is = part_at worker d d.parts at.0 p at.1 in
    record {
      shown = record {
        worker = number;
        work = work;
        by = by;
        k = from.0;
        there = subst (λ (x : RecordedJob). IsAt work from.0 x) (sym is.job) from.2;
        i = at.0;
        its = subst (λ (x : RecordedJob). IsAt x.parts at.0 p.part) (sym is.job) is.part;
      };
      ends = subst (λ (x : RecordedJob). EndsAt p.is_last at.0 (length x.parts)) (sym is.job) is.ends;
    }

come_of_workers : (done : List (List RecordedJob)) (first skipped : ℕ) (rest : List (List RecordedJob))
    → ((i : ℕ) (work : List RecordedJob) → IsAt rest i work → IsAt done (skipped + i) work) → (p : RecordedPart)
    → Contains (parts_of_workers first rest) p → Comes done p
come_of_workers done first skipped [] are p has = let low = has.1 in absurd (omega (arith, low))
come_of_workers done first skipped (work ∷ rest) are p has =
    elim (Contains-append_cases (parts_of_work first work) (parts_of_workers (first + 1) rest) p has) [
      | inl here ↦ come_of_work done first (skipped + 0) work (are 0 work refl) p here
      | inr after ↦ come_of_workers done (first + 1) (skipped + 1) rest
          (λ i v at.
          let number : skipped + suc i ≡ skipped + 1 + i = omega arith in
          subst (λ (n : ℕ). IsAt done n v) number (are (suc i) v at))
          p after
    ]

pub parts_come : (unit : ℕ) (done : List (List RecordedJob)) (i : ℕ) (p : RecordedPart) → IsAt (parts_in_unit unit done) i p
    → Comes done p × (p.part.unit ≡ unit)
parts_come unit done i p at =
    let from = out_of_filter (λ (q : RecordedPart). nat_eq q.part.unit unit) (parts_of_workers 0 done) i p at in (
      come_of_workers done 0 0 done
          (λ k work there. let number : k ≡ 0 + k = omega arith in subst (λ (n : ℕ). IsAt done n work) number there) p
          (contained (parts_of_workers 0 done) from.1 p from.2),
      eqb-true p.part.unit unit from.0,
    )

-- the step that the part is
abbrev pub step_shown_by : List TracedJob → RecordedPart → Step
step_shown_by traced p = step_of (times_of traced p.done.job) p.done.job p.part (made_by p.part.result)

only : {A : Type 0} (t s : A) → Contains (t ∷ []) s → t ≡ s
only t s has = elim (first_or_behind t [] s has) [ inl same ↦ same | inr after ↦ let low = after.1 in absurd (omega (arith, low)) ]

step_there : (times : Times) (job : ℕ) (part : Part) (result : PartResult) → is_step result ≡ true
    → Contains (steps_by times job part result) (step_of times job part (made_by result))
step_there times job part Done is = contained (steps_by times job part Done) 0 (step_of times job part true) refl
step_there times job part Failed is = contained (steps_by times job part Failed) 0 (step_of times job part false) refl
step_there times job part Looked is = contained (steps_by times job part Looked) 0 (step_of times job part false) refl
step_there times job part NoMemory is = absurd (cc is)
step_there times job part Full is = absurd (cc is)

-- A part is one step.
pub the_step : (times : Times) (job : ℕ) (part : Part) (result : PartResult) → is_step result ≡ true → (s : Step)
    → Contains (steps_by times job part result) s → step_of times job part (made_by result) ≡ s
the_step times job part Done is s has = only (step_of times job part true) s has
the_step times job part Failed is s has = only (step_of times job part false) s has
the_step times job part Looked is s has = only (step_of times job part false) s has
the_step times job part NoMemory is s has = absurd (cc is)
the_step times job part Full is s has = absurd (cc is)

-- The record shows it.
pub part_is_shown : (traced : List TracedJob) (done : List (List RecordedJob)) (p : RecordedPart) → IsShownPart done p.done p.part
    → is_step p.part.result ≡ true → Contains (steps_of traced done) (step_shown_by traced p)
part_is_shown traced done p shown is =
    let s = step_shown_by traced p in
    let times = times_of traced p.done.job in
    into_flat (steps_of_work traced) done shown.worker shown.work s shown.by
    (into_flat (steps_of_job traced) shown.work shown.k p.done s shown.there
    (into_flat (steps_of_part times p.done.job) p.done.parts shown.i p.part s shown.its
    (step_there times p.done.job p.part p.part.result is)))
