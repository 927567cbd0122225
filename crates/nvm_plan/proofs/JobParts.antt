-- A job's part in a unit is that of its operation, and lies in the unit.
use Rattle.std.proofs.Common.{◌≡◌, ℕ, ◌+◌, ◌*◌, ◌<◌, ◌≤◌, Bool, true, false, if◌then◌else◌, List, [], Option, Some, None, IsSome, IsTrue, refl, sym, ap, subst, ◌∙◌, arith}
use Rattle.std.specs.List.{Contains}
use Rattle.std.proofs.lemmas.Option.{same_Some, none-some}
use Rattle.nvm_record.specs.declared.command.Command.{Command}
use Rattle.nvm_record.specs.declared.op.Op.TheVariants.{Dataset}
use Rattle.nvm_record.specs.declared.status.Statuses.{Statuses}
use Rattle.nvm_record.specs.Ranges.{ranges_of}
use Rattle.nvm_record.specs.Step.{HasData, HasRangesWithin, Operation}
use Rattle.nvm_geometry.specs.Namespace.{Namespace}
use Rattle.nvm_geometry.specs.Deallocation.{deallocation}
use Rattle.nvm_geometry.specs.Parts.{meets, units_met, piece_in, part_in}
use Rattle.nvm_store.specs.declared.place.Place.{Place}
use Rattle.nvm_store.specs.Operation.{deallocate_operation}
use Rattle.nvm_store.specs.Place.{IsCovered}
use Rattle.nvm_plan.specs.UnitPlace.{IsUnitPlace}
use Rattle.nvm_plan.specs.declared.job.Job.{Job}
use Rattle.nvm_plan.specs.Checks.{refusal_of}
use Rattle.nvm_plan.specs.JobPart.{unless_refused, ready_operation, units_of_ready, part_of_ready, job_units, job_part_in}
use Rattle.nvm_plan.specs.Operation.{single_operation, job_operation_of}

if_true : (b : Bool) (x : Option Operation) → b ≡ true → (if b then x else None) ≡ x
if_true b x e = rw e refl

-- the part, where the operation meets the unit
pub part_there : (ns : Namespace) (op : Operation) (unit : ℕ) → IsTrue (meets ns op unit) → part_of_ready ns (Some op) unit ≡ Some (part_in ns op unit)
part_there ns op unit met = if_true _ _ met

-- what is known of a job that has a part in the unit
pub record HasPart (ns : Namespace) (refused : Option Statuses) (stands : Option Operation) (unit : ℕ) (part : Operation) : Type 0 where
  pub free : refused ≡ None
  pub op : Operation
  pub is : stands ≡ Some op
  pub met : IsTrue (meets ns op unit)
  pub part_is : part_in ns op unit ≡ part

met_or_not : (ns : Namespace) (op : Operation) (unit : ℕ) (part : Operation) (b : Bool) → meets ns op unit ≡ b
    → (if b then Some (part_in ns op unit) else None) ≡ Some part → HasPart ns None (Some op) unit part
met_or_not ns op unit part true e h = record { free = refl; op = op; is = refl; met = e; part_is = same_Some _ _ h }
met_or_not ns op unit part false e h = absurd (none-some part h)

part_known : (ns : Namespace) (refused : Option Statuses) (stands : Option Operation) (unit : ℕ) (part : Operation)
    → part_of_ready ns (unless_refused refused stands) unit ≡ Some part → HasPart ns refused stands unit part
part_known ns (Some refusal) stands unit part h = absurd (none-some part h)
part_known ns None None unit part h = absurd (none-some part h)
part_known ns None (Some op) unit part h = met_or_not ns op unit part (meets ns op unit) refl h

pub has_part : (ns : Namespace) (job : Job) (unit : ℕ) (part : Operation) → job_part_in ns job unit ≡ Some part
    → HasPart ns (refusal_of ns job) (job_operation_of ns job) unit part
has_part ns job unit part h = part_known ns (refusal_of ns job) (job_operation_of ns job) unit part h

-- the part, where there is one
pub some_part : (o : Option Operation) → IsSome o → (part : Operation) × (o ≡ Some part)
some_part None some = absurd (cc some)
some_part (Some part) some = (part, refl)

-- What is known of a job that has a part in the unit.
pub part_is_known : (ns : Namespace) (job : Job) (unit : ℕ) → IsSome (job_part_in ns job unit)
    → (part : Operation) × (job_part_in ns job unit ≡ Some part) × HasPart ns (refusal_of ns job) (job_operation_of ns job) unit part
part_is_known ns job unit there =
    let its = some_part (job_part_in ns job unit) there in
    (its.0, its.1, has_part ns job unit its.0 its.1)

-- the operation of a job that isn't refused
served_is : (refused : Option Statuses) (stands : Option Operation) → refused ≡ None → unless_refused refused stands ≡ stands
served_is refused stands e = rw e refl

pub part_of_served : (ns : Namespace) (job : Job) (unit : ℕ) → refusal_of ns job ≡ None → job_part_in ns job unit ≡ part_of_ready ns (job_operation_of ns job) unit
part_of_served ns job unit free = ap (λ (o : Option Operation). part_of_ready ns o unit) (served_is (refusal_of ns job) (job_operation_of ns job) free)

pub units_of_served : (ns : Namespace) (job : Job) → refusal_of ns job ≡ None → job_units ns job ≡ units_of_ready ns (job_operation_of ns job)
units_of_served ns job free = ap (units_of_ready ns) (served_is (refusal_of ns job) (job_operation_of ns job) free)

pub part_is_there : (ns : Namespace) (job : Job) (op : Operation) (unit : ℕ) → refusal_of ns job ≡ None → job_operation_of ns job ≡ Some op
    → IsTrue (meets ns op unit) → job_part_in ns job unit ≡ Some (part_in ns op unit)
part_is_there ns job op unit free stands met =
    part_of_served ns job unit free ∙ ap (λ (o : Option Operation). part_of_ready ns o unit) stands ∙ part_there ns op unit met

pub units_are : (ns : Namespace) (job : Job) (op : Operation) → refusal_of ns job ≡ None → job_operation_of ns job ≡ Some op → job_units ns job ≡ units_met ns op
units_are ns job op free stands = units_of_served ns job free ∙ ap (units_of_ready ns) stands

-- the operation of a job that has a part in the unit
operation_met : (ns : Namespace) (ready : Option Operation) (unit : ℕ) → Contains (units_of_ready ns ready) unit → (op : Operation) × Contains (units_met ns op) unit
operation_met ns None unit there = absurd (omega (arith, there.1))
operation_met ns (Some op) unit there = (op, there)

pub has_units : (ns : Namespace) (job : Job) (unit : ℕ) → Contains (job_units ns job) unit → (op : Operation) × Contains (units_met ns op) unit
has_units ns job unit there = operation_met ns (ready_operation ns job) unit there

-- nothing of a refused job
none_ready : (refused : Option Statuses) (stands : Option Operation) (refusal : Statuses) → refused ≡ Some refusal → unless_refused refused stands ≡ None
none_ready refused stands refusal e = rw e refl

pub nothing_refused : (ns : Namespace) (job : Job) (refusal : Statuses) (unit : ℕ) → refusal_of ns job ≡ Some refusal → (job_units ns job ≡ []) × (job_part_in ns job unit ≡ None)
nothing_refused ns job refusal unit e =
    let none = none_ready (refusal_of ns job) (job_operation_of ns job) refusal e in
    (ap (units_of_ready ns) none, ap (λ (o : Option Operation). part_of_ready ns o unit) none)

pub part_covered : (ns : Namespace) (op part : Operation) (unit : ℕ) (place : Place) → part_in ns op unit ≡ part → 0 < (part_in ns op unit).blocks → place.size ≡ ns.block_size
    → (place.first ≤ (part_in ns op unit).first) × ((part_in ns op unit).first + (part_in ns op unit).blocks ≤ place.first + place.blocks)
    → HasData ((part_in ns op unit).blocks * ns.block_size) (part_in ns op unit).deed
    → HasRangesWithin (part_in ns op unit).first (part_in ns op unit).blocks (part_in ns op unit).deed
    → IsCovered place part
part_covered ns op part unit place is some size lies payload ranges =
    subst (IsCovered place) is (record {
      range = record { some = some; above = lies.0; below = lies.1 };
      payload = subst (λ (n : ℕ). HasData ((part_in ns op unit).blocks * n) (part_in ns op unit).deed) (sym size) payload;
      ranges = ranges;
    })

-- What is lent of a part that is there lies there, too.
pub there_covered : (ns : Namespace) (job : Job) (unit : ℕ) (lent : Operation)
    → ((place : Place) (part : Operation) → job_part_in ns job unit ≡ Some part → IsUnitPlace ns unit place → IsCovered place part)
    → job_part_in ns job unit ≡ Some lent → (place : Place) → IsUnitPlace ns unit place → IsCovered place lent
there_covered ns job unit lent all is place lies = all place lent is lies

-- The part of a job that has one, where what is lent is that of its operation, whichever that is.
pub part_is_lent : (ns : Namespace) (job : Job) (unit : ℕ) (lent : Operation) → IsSome (job_part_in ns job unit)
    → ((op : Operation) → job_operation_of ns job ≡ Some op → lent ≡ part_in ns op unit) → job_part_in ns job unit ≡ Some lent
part_is_lent ns job unit lent there all =
    let its = part_is_known ns job unit there in
    its.1 ∙ ap (λ (o : Operation). Some o) (sym its.2.part_is ∙ sym (all its.2.op its.2.is))

-- the ranges of a Dataset Management that are deallocated: those of the data that is lent for it
deallocated_ranges : (deallocate : Bool) (payload lent : List ℕ) → lent ≡ (if deallocate then payload else [])
    → ranges_of lent ≡ (if deallocate then ranges_of payload else [])
deallocated_ranges true payload lent is = ap ranges_of is
deallocated_ranges false payload lent is = ap ranges_of is

-- The part of a Dataset Management in a unit of this place: the ranges that are lent for it, cut to the place.
pub deallocated_there : (ns : Namespace) (deallocate : Bool) (c : Command) (lent : List ℕ) (unit first blocks : ℕ) (op : Operation)
    → lent ≡ (if deallocate then c.payload else [])
    → (first ≡ (piece_in ns 0 ns.nsze unit).first) × (blocks ≡ (piece_in ns 0 ns.nsze unit).blocks)
    → single_operation ns (Dataset deallocate) c ≡ Some op → deallocate_operation first blocks (ranges_of lent) ≡ part_in ns op unit
deallocated_there ns deallocate c lent unit first blocks op lent_is same is =
    let op_is : deallocation ns (ranges_of lent) ≡ op = ap (deallocation ns) (deallocated_ranges deallocate c.payload lent lent_is) ∙ same_Some _ _ is in
    ap (λ (n : ℕ). deallocate_operation n blocks (ranges_of lent)) same.0
    ∙ ap (λ (n : ℕ). deallocate_operation (piece_in ns 0 ns.nsze unit).first n (ranges_of lent)) same.1
    ∙ ap (λ (o : Operation). part_in ns o unit) op_is
