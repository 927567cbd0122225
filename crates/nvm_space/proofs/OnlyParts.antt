-- The only part of a job: what is reported about it is the job's outcome, and it lies in its region.
use Rattle.std.proofs.Common.{◌≡◌, ◌↔◌, ◌⊎◌, inl, inr, ℕ, ◌+◌, ◌*◌, ◌<◌, ◌≤◌, Bool, true, false, IsTrue, List, [], ◌∷◌, ◌++◌, Option, Some, None, IsSome, unwrap_or, if◌then◌else◌, refl, sym, ap, ◌∙◌, subst, arith}
use Rattle.nvm_record.specs.declared.status.Status.{Status}
use Rattle.nvm_record.specs.declared.status.Statuses.{Statuses}
use Rattle.nvm_record.specs.declared.status.Statuses.TheVariants.{One, Two}
use Rattle.nvm_record.specs.Deeds.{is_pair, is_read, success_of}
use Rattle.nvm_record.specs.Status.{IsSuccess, internal_error, successful_completion}
use Rattle.nvm_record.specs.Step.{Deed, HasData, Operation}
use Rattle.nvm_geometry.specs.Boundaries.{unit_number, units_of}
use Rattle.nvm_geometry.specs.Large.{IsLarge, region_of, regions_of}
use Rattle.nvm_geometry.specs.Namespace.{Namespace}
use Rattle.nvm_geometry.specs.Parts.{piece_in}
use Rattle.nvm_geometry.specs.Place.{IsPlaceOf}
use Rattle.nvm_store.specs.Place.{IsCovered, place_at}
use Rattle.nvm_store.specs.declared.place.Place.{Place}
use Rattle.nvm_plan.specs.UnitPlace.{IsUnitPlace}
use Rattle.nvm_plan.specs.declared.job.Job.{Job}
use Rattle.nvm_plan.specs.declared.part.PartResult.{PartResult}
use Rattle.nvm_plan.specs.declared.part.PartResult.TheVariants.{Done, Failed, Looked, NoMemory, Full}
use Rattle.nvm_plan.specs.Outcome.{answered, data_told, AreDone, IsOutcomeOf}
use Rattle.nvm_plan.specs.Reply.{Reply, can_have, IsReplyTo, IsSuccessfulReply, MayTell}
use Rattle.nvm_space.specs.AtOnce.{IsOnlyPartAt}
use Rattle.nvm_space.proofs.DeedLemmas.{internal_error_fails, look_is_no_pair, none_there}

pub success_or_not : (ok : Bool) (statuses : Statuses) → IsTrue ok ↔ IsSuccess statuses → IsSuccess statuses ⊎ (IsSuccess statuses → ⊥)
success_or_not true statuses is = inl (is.0 refl)
success_or_not false statuses is = inr (λ ok. let bad = is.1 ok in cc bad)

stop_fails : (b : Bool) → IsSuccess (if b then Two successful_completion internal_error else One internal_error) → ⊥
stop_fails true ok = internal_error_fails ok.1
stop_fails false ok = internal_error_fails ok

-- a part that succeeds tells the success of its deed
told_success : (deed : Deed) (ended : PartResult) (told : Statuses) → IsTrue (can_have deed ended) → MayTell deed ended told → IsSuccess told → told ≡ success_of deed
told_success deed Done told can may ok = may
told_success deed Failed (One s) can may ok = absurd may
told_success deed Failed (Two s t) can may ok =
    elim may.0 [
      | inl marked ↦ let bad : 2 ≡ 0 = ap (λ (x : Status). x.sct) (sym marked ∙ ok.0) in absurd (cc bad)
      | inr differs ↦ let bad : 2 ≡ 0 = ap (λ (x : Status). x.sct) (sym differs ∙ ok.0) in absurd (cc bad)
    ]
told_success deed Looked (One s) can may ok =
    ap (λ (x : Status). One x) ok ∙ sym (ap (λ (b : Bool). if b then Two successful_completion successful_completion else One successful_completion) (look_is_no_pair deed can))
told_success deed Looked (Two s t) can may ok = absurd may
told_success deed NoMemory told can may ok = absurd (stop_fails (is_pair deed) (subst IsSuccess may ok))
told_success deed Full told can may ok = absurd (stop_fails (is_pair deed) (subst IsSuccess may ok))

-- and with the data of a Read
read_or_none : (b : Bool) (payload : Option (List ℕ)) → (IsTrue b → IsSome payload) → (IsSome payload → IsTrue b)
    → payload ≡ (if b then Some (unwrap_or payload []) else None)
read_or_none true (Some bytes) there here = refl
read_or_none true None there here = absurd (let bad = there refl in cc bad)
read_or_none false (Some bytes) there here = absurd (let bad = here refl in cc bad)
read_or_none false None there here = refl

module _ (ns : Namespace) (op : Operation) (r : Reply) where
  -- the outcome of an operation whose only part has this reply
  pub outcome_of_one : (AreDone ns op [] (r.part.unit ∷ []) → IsSuccessfulReply op.deed r → AreDone ns op ([] ++ r ∷ []) [])
      → ((replies : List Reply) → AreDone ns op replies [] → IsOutcomeOf ns op replies (success_of op.deed) (answered op.deed (data_told replies)))
      → (AreDone ns op [] (r.part.unit ∷ []) → IsReplyTo op.deed r → (IsSuccess r.statuses → ⊥) → IsOutcomeOf ns op ([] ++ r ∷ []) r.statuses None)
      → data_told ([] ++ r ∷ []) ≡ data_told [] ++ unwrap_or r.payload []
      → AreDone ns op [] (r.part.unit ∷ []) → IsReplyTo op.deed r → IsSuccess r.statuses ⊎ (IsSuccess r.statuses → ⊥)
      → IsOutcomeOf ns op (r ∷ []) r.statuses r.payload
  outcome_of_one more whole stopped read begun reply (inl success) =
      let so = whole (r ∷ []) (more begun (record { reply = reply; success = success })) in
      let told = told_success op.deed r.part.result r.statuses reply.result reply.told success in
      let payload : r.payload ≡ answered op.deed (unwrap_or r.payload []) =
      read_or_none (is_read op.deed) r.payload (λ b. reply.payload.1 (b, success)) (λ some. (reply.payload.0 some).0) in
      subst (λ (p : Option (List ℕ)). IsOutcomeOf ns op (r ∷ []) r.statuses p) (ap (answered op.deed) read ∙ sym payload)
      (subst (λ (t : Statuses). IsOutcomeOf ns op (r ∷ []) t (answered op.deed (data_told (r ∷ [])))) (sym told) so)
  outcome_of_one more whole stopped read begun reply (inr failure) =
      let none : r.payload ≡ None = none_there r.payload (λ some. failure (reply.payload.0 some).1) in
      subst (λ (p : Option (List ℕ)). IsOutcomeOf ns op (r ∷ []) r.statuses p) (sym none) (stopped begun reply failure)

-- The region of the only part is one of the namespace's.
pub only_known : (ns : Namespace) (job : Job) (region : ℕ) (part : Operation) → IsLarge ns
    → ((space : Namespace) (lba : ℕ) → lba < space.nsze → unit_number space lba < units_of space)
    → ((space : Namespace) (lba : ℕ) → IsLarge space → unit_number (regions_of space) lba ≡ region_of space (unit_number space lba))
    → IsOnlyPartAt ns job region part → region < units_of (regions_of ns)
only_known ns job region part large below number only =
    subst (λ (k : ℕ). k < units_of (regions_of ns)) (number ns part.first large ∙ sym only.here) (below (regions_of ns) part.first only.known)

-- The place of a unit's region covers what the place of the unit does.
pub region_covers : (ns : Namespace) (unit : ℕ) (part : Operation) (place : Place) → IsLarge ns → unit < units_of ns
    → ((space : Namespace) (u : ℕ) → 0 < space.nsze → u < units_of space
    → IsPlaceOf space u (piece_in space 0 space.nsze u).first (piece_in space 0 space.nsze u).blocks)
    → ((space : Namespace) (u first blocks start count : ℕ) → IsLarge space → IsPlaceOf space u first blocks
    → IsPlaceOf (regions_of space) (region_of space u) start count → (start ≤ first) × (first + blocks ≤ start + count))
    → ((smaller : Place) → IsUnitPlace ns unit smaller → IsCovered smaller part)
    → IsUnitPlace (regions_of ns) (region_of ns unit) place → IsCovered place part
region_covers ns unit part place large known has_place covers covered its =
    let first = (piece_in ns 0 ns.nsze unit).first in
    let blocks = (piece_in ns 0 ns.nsze unit).blocks in
    let lies = has_place ns unit large.some known in
    let inner = covered (place_at first blocks ns.block_size) (record { lbas = lies; size = refl }) in
    let outer = covers ns unit first blocks place.first place.blocks large lies its.lbas in
    let start : place.first ≤ first = outer.0 in
    let end : first + blocks ≤ place.first + place.blocks = outer.1 in
    let above : first ≤ part.first = inner.range.above in
    let below : part.first + part.blocks ≤ first + blocks = inner.range.below in
    record {
      range = record { some = inner.range.some; above = omega (arith, start, above); below = omega (arith, end, below) };
      payload = subst (λ (size : ℕ). HasData (part.blocks * size) part.deed) (sym its.size) inner.payload;
      ranges = inner.ranges;
    }
