-- A unit without a mark is named by no part.
use Rattle.std.proofs.Common.{◌≡◌, ℕ, zero, suc, ◌+◌, nat_eq, List, [], ◌∷◌, ◌++◌, Bool, true, false, length, replicate, set, get_or, refl, sym, ap, ◌∙◌, length-set}
use Rattle.std.proofs.lemmas.Bool.{eqb-true, eqb-false}
use Rattle.std.proofs.lemmas.List.{get_or-set_other, length-replicate}
use Rattle.std.proofs.lemmas.List.Elements.{filter-append}
use Rattle.nvm_plan.specs.declared.part.Part.{Part}
use Rattle.nvm_audit.specs.Inside.Gathered.{naming}
use Rattle.nvm_audit.specs.RecordedJob.{RecordedJob}
use Rattle.nvm_audit.specs.RecordedPart.{RecordedPart, parts_left, parts_of_work, parts_of_workers, parts_in_unit}
use Rattle.nvm_listing.specs.Inside.Named.{named_by_parts, named_by_work, named_by_workers, named_units}

-- what was marked is marked, and so is what lies behind all marks
marked : (named : List Bool) (unit : ℕ) → get_or (set named unit true) unit true ≡ true
marked [] unit = refl
marked (m ∷ named) zero = refl
marked (m ∷ named) (suc unit) = marked named unit

-- The unit has no mark.
abbrev pub IsUnmarked : ℕ → List Bool → Type 0
IsUnmarked unit named = get_or named unit true ≡ false

-- It had none before, and these parts don't name it.
pub record IsLeftOut (unit : ℕ) (named : List Bool) (parts : List RecordedPart) : Type 0 where
  pub before : IsUnmarked unit named
  pub none : naming unit parts ≡ []

-- where a mark was put at another unit
apart : (unit other : ℕ) (named : List Bool) → IsUnmarked unit (set named other true) → (b : Bool) → nat_eq other unit ≡ b → b ≡ false
apart unit other named h false e = refl
apart unit other named h true e =
    let same : other ≡ unit = eqb-true other unit e in
    let there : get_or (set named other true) unit true ≡ true = rw same (marked named unit) in
    sym there ∙ h

other_of : (unit other : ℕ) (named : List Bool) → IsUnmarked unit (set named other true) → nat_eq other unit ≡ false
other_of unit other named h = apart unit other named h (nat_eq other unit) refl

before_of : (unit other : ℕ) (named : List Bool) → IsUnmarked unit (set named other true) → IsUnmarked unit named
before_of unit other named h =
    let differ = eqb-false other unit (other_of unit other named h) in
    sym (get_or-set_other named other unit true true (λ same. differ (sym same))) ∙ h

pub left_out_by_parts : (unit worker : ℕ) (d : RecordedJob) (parts : List Part) (named : List Bool)
    → IsUnmarked unit (named_by_parts parts named) → IsLeftOut unit named (parts_left worker d parts)
left_out_by_parts unit worker d [] named h = record { before = h; none = refl }
left_out_by_parts unit worker d (part ∷ []) named h =
    record { before = before_of unit part.unit named h; none = rw (other_of unit part.unit named h) refl }
left_out_by_parts unit worker d (part ∷ next ∷ parts) named h =
    let rest = left_out_by_parts unit worker d (next ∷ parts) (set named part.unit true) h in
    record {
      before = before_of unit part.unit named rest.before;
      none = rw (other_of unit part.unit named rest.before) rest.none;
    }

both_none : (unit : ℕ) (front rest : List RecordedPart) → naming unit front ≡ [] → naming unit rest ≡ [] → naming unit (front ++ rest) ≡ []
both_none unit front rest one other =
    filter-append (λ (p : RecordedPart). nat_eq p.part.unit unit) front rest
    ∙ ap (λ (ps : List RecordedPart). ps ++ naming unit rest) one ∙ other

pub left_out_by_work : (unit worker : ℕ) (work : List RecordedJob) (named : List Bool)
    → IsUnmarked unit (named_by_work work named) → IsLeftOut unit named (parts_of_work worker work)
left_out_by_work unit worker [] named h = record { before = h; none = refl }
left_out_by_work unit worker (d ∷ work) named h =
    let rest = left_out_by_work unit worker work (named_by_parts d.parts named) h in
    let here = left_out_by_parts unit worker d d.parts named rest.before in
    record {
      before = here.before;
      none = both_none unit (parts_left worker d d.parts) (parts_of_work worker work) here.none rest.none;
    }

pub left_out_by_workers : (unit worker : ℕ) (done : List (List RecordedJob)) (named : List Bool)
    → IsUnmarked unit (named_by_workers done named) → IsLeftOut unit named (parts_of_workers worker done)
left_out_by_workers unit worker [] named h = record { before = h; none = refl }
left_out_by_workers unit worker (work ∷ rest) named h =
    let others = left_out_by_workers unit (worker + 1) rest (named_by_work work named) h in
    let here = left_out_by_work unit worker work named others.before in
    record {
      before = here.before;
      none = both_none unit (parts_of_work worker work) (parts_of_workers (worker + 1) rest) here.none others.none;
    }

long_by_parts : (parts : List Part) (named : List Bool) → length (named_by_parts parts named) ≡ length named
long_by_parts [] named = refl
long_by_parts (part ∷ parts) named = long_by_parts parts (set named part.unit true) ∙ length-set named part.unit true

long_by_work : (work : List RecordedJob) (named : List Bool) → length (named_by_work work named) ≡ length named
long_by_work [] named = refl
long_by_work (d ∷ work) named = long_by_work work (named_by_parts d.parts named) ∙ long_by_parts d.parts named

long_by_workers : (done : List (List RecordedJob)) (named : List Bool) → length (named_by_workers done named) ≡ length named
long_by_workers [] named = refl
long_by_workers (work ∷ rest) named = long_by_workers rest (named_by_work work named) ∙ long_by_work work named

-- There is a mark for each unit.
pub long_named : (units : ℕ) (done : List (List RecordedJob)) → length (named_units units done) ≡ units
long_named units done = long_by_workers done (replicate units false) ∙ length-replicate units false

-- No part names a unit whose mark isn't set.
pub none_named : (units : ℕ) (done : List (List RecordedJob)) (unit : ℕ) → get_or (named_units units done) unit true ≡ false
    → parts_in_unit unit done ≡ []
none_named units done unit h = (left_out_by_workers unit 0 done (replicate units false) h).none
