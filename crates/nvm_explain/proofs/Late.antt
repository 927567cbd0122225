-- A late step is found, with one against it.
use Rattle.std.proofs.Common.{◌≡◌, ℕ, zero, suc, List, [], ◌∷◌, Bool, true, false, if◌then◌else◌, Option, Some, None, Contains, refl, sym, ap, subst, ◌∙◌, arith}
use Rattle.std.proofs.lemmas.Bool.{and_from, and_parts, eqb-true, eq-eqb, ltb-true, lt-ltb}
use mathlib.Core.Option.{some-injective}
use Rattle.nvm_audit.specs.declared.audit_fault.Spot.{Spot}
use Rattle.nvm_audit.specs.RecordView.{RecordView}
use Rattle.nvm_record.specs.Lists.{IsAt}
use Rattle.nvm_trace.specs.declared.judging.Judging.{Judging}
use Rattle.nvm_trace.specs.declared.step.Step.{Step}
use Rattle.nvm_trace.specs.FirstFault.{IsFirstBack}
use Rattle.nvm_trace.specs.Order.{Precedes}
use Rattle.nvm_trace.specs.Pieces.{wholes}
use Rattle.nvm_trace.specs.Steps.{steps_of}
use Rattle.nvm_trace.specs.Timely.{HadEnded}
use Rattle.nvm_trace.specs.TraceView.{TraceView}
use Rattle.nvm_trace.proofs.Places.{none_stands, placed}
use Rattle.nvm_explain.specs.Ordering.{had_ended, is_against, is_at, late_among, late_or, late_pair, step_against}
use Rattle.nvm_explain.specs.Late.{IsOfLate}

had_ended_true : (ended : Option ℕ) (time : ℕ) → had_ended ended time ≡ true → HadEnded ended time
had_ended_true None time h = absurd cc
had_ended_true (Some e) time h = ltb-true e time h

had_ended_from : (ended : Option ℕ) (time : ℕ) → HadEnded ended time → had_ended ended time ≡ true
had_ended_from None time h = absurd h
had_ended_from (Some e) time h = lt-ltb e time h

against_from : (late s : Step) → Precedes s late → HadEnded late.ended s.began → is_against late s ≡ true
against_from late s before ended =
    and_from _ _ (eq-eqb s.unit late.unit before.unit) (and_from _ _ (lt-ltb _ _ before.level) (had_ended_from late.ended s.began ended))

against_is : (late s : Step) → is_against late s ≡ true → Precedes s late × HadEnded late.ended s.began
against_is late s h =
    let unit = and_parts _ _ h in
    let level = and_parts _ _ unit.1 in
    (record { unit = eqb-true _ _ unit.0; level = ltb-true _ _ level.0 }, had_ended_true late.ended s.began level.1)

behind : {A : Type 0} (x : A) (xs : List A) (y : A) → Contains xs y → Contains (x ∷ xs) y
behind x xs y has = let low = has.1 in (suc has.0, omega (arith, low), has.2)

abbrev or_this : Step → Option Step → Step
or_this s None = s
or_this s (Some t) = t

-- What is found is one of the steps, and is against the late one.
found_is : (late : Step) (steps : List Step) (s : Step) → step_against late steps ≡ Some s → Contains steps s × (is_against late s ≡ true)
found_is late [] s h = absurd cc
found_is late (x ∷ steps) s h = by (is_against late x) refl (found_is late steps s) h
  where
    by : (b : Bool) → is_against late x ≡ b → (step_against late steps ≡ Some s → Contains steps s × (is_against late s ≡ true))
        → (if b then Some x else step_against late steps) ≡ Some s → Contains (x ∷ steps) s × (is_against late s ≡ true)
    by true is later e =
        let same : x ≡ s = ap (or_this x) e in
        (subst (λ (y : Step). Contains (x ∷ steps) y) same (0, omega arith, refl), subst (λ (y : Step). is_against late y ≡ true) same is)
    by false is later e = let h = later e in (behind x steps s h.0, h.1)

-- Where one of the steps is against the late one, one is found.
found_if : (late : Step) (steps : List Step) (i : ℕ) (s : Step) → IsAt steps i s → is_against late s ≡ true
    → (f : Step) × (step_against late steps ≡ Some f)
found_if late [] i s at is = absurd (none_stands i s at)
found_if late (x ∷ steps) zero s at is = by (is_against late x) (ap (λ y. is_against late y) (some-injective x s at) ∙ is)
  where
    by : (b : Bool) → b ≡ true → (f : Step) × ((if b then Some x else step_against late steps) ≡ Some f)
    by true same = (x, refl)
    by false same = absurd cc
found_if late (x ∷ steps) (suc i) s at is = by (is_against late x) (found_if late steps i s at is)
  where
    by : (b : Bool) → (f : Step) × (step_against late steps ≡ Some f) → (f : Step) × ((if b then Some x else step_against late steps) ≡ Some f)
    by true later = (x, refl)
    by false later = later

-- A step, and one that was found against it.
of_found : (all : List Step) (late f : Step) (others : Option (Step × Step)) → Contains all late → step_against late all ≡ Some f
    → IsOfLate all (late_or late others (Some f))
of_found all late f others there e =
    let found = found_is late all f e in
    let is = against_is late f found.1 in
    record { late = late; late_there = there; earlier = f; earlier_there = found.0; before = is.0; ended = is.1; is = refl }

found_late : (all steps : List Step) (job : ℕ) (spot : Spot) (i : ℕ) (late earlier : Step) → IsAt steps i late
    → is_at job spot late ≡ true → Contains all earlier → is_against late earlier ≡ true
    → ((s : Step) → Contains steps s → Contains all s) → IsOfLate all (late_among all job spot steps)
found_late all [] job spot i late earlier at is has against within = absurd (none_stands i late at)
found_late all (x ∷ steps) job spot zero late earlier at is has against within =
    let same : late ≡ x = sym (some-injective x late at) in
    let place = placed all earlier has in
    let found = found_if x all place.0 earlier place.1 (subst (λ (y : Step). is_against y earlier ≡ true) same against) in
    by (is_at job spot x) (subst (λ (y : Step). is_at job spot y ≡ true) same is) (step_against x all) refl found.0 found.1
  where
    by : (b : Bool) → b ≡ true → (o : Option Step) → step_against x all ≡ o → (f : Step) → o ≡ Some f
        → IsOfLate all (if b then late_or x (late_among all job spot steps) o else late_among all job spot steps)
    by true same None e f some = absurd cc
    by true same (Some f) e g some = of_found all x f (late_among all job spot steps) (within x (0, omega arith, refl)) e
    by false same o e f some = absurd cc
found_late all (x ∷ steps) job spot (suc i) late earlier at is has against within =
    by (is_at job spot x) (step_against x all) refl
    (found_late all steps job spot i late earlier at is has against (λ s there. within s (behind x steps s there)))
  where
    by : (b : Bool) → (o : Option Step) → step_against x all ≡ o → IsOfLate all (late_among all job spot steps)
        → IsOfLate all (if b then late_or x (late_among all job spot steps) o else late_among all job spot steps)
    by true None e later = later
    by true (Some f) e later = of_found all x f (late_among all job spot steps) (within x (0, omega arith, refl)) e
    by false o e later = later

pub first_is_found : (judging : Judging) (t : TraceView) (r : RecordView) (job : ℕ) (spot : Spot) → IsFirstBack judging t r job spot
    → IsOfLate (steps_of (wholes judging t) r.done) (late_pair (steps_of (wholes judging t) r.done) job spot)
first_is_found judging t r job spot back =
    let steps = steps_of (wholes judging t) r.done in
    let late = back.first.late in
    let is = back.first.is in
    found_late steps steps job spot back.place late is.earlier back.first.there
    (and_from _ _ (eq-eqb late.job job back.job_is)
    (and_from _ _ (eq-eqb late.unit spot.unit back.unit_is) (eq-eqb late.point spot.place back.point_is)))
    is.shown (against_from late is.earlier is.before is.ended) (λ s has. has)
