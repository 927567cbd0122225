-- Data is reported for a Read by itself that succeeds.
use Rattle.std.proofs.Common.{◌≡◌, ℕ, List, false, Option, Some, None, MatchOption, IsTrue, IsSome, refl, ap}
use Rattle.std.specs.Option.{IsSomeAnd}
use Rattle.nvm_record.specs.Deeds.{is_read, is_pair}
use Rattle.nvm_record.specs.Status.{IsSuccess, successful_completion}
use Rattle.nvm_record.specs.Step.{Deed, Operation, writes, zeroes, uncorrectable, reads, compares, pairs, deallocates}
use Rattle.nvm_record.specs.declared.status.Statuses.{Statuses}
use Rattle.nvm_record.specs.declared.status.Statuses.TheVariants.{One, Two}
use Rattle.nvm_geometry.specs.Namespace.{Namespace}
use Rattle.nvm_plan.specs.declared.job.Job.{Job}
use Rattle.nvm_plan.specs.declared.part.Part.{Part}
use Rattle.nvm_plan.specs.Checks.{refusal_of}
use Rattle.nvm_plan.specs.Operation.{job_operation_of}
use Rattle.nvm_plan.specs.Reply.{IsOneStatus}
use Rattle.nvm_plan.specs.Shape.{HasShapeOf, HasShapeOfRefusal, HasOutcomeShape}
use Rattle.nvm_plan.proofs.Arity.{one_ending}

-- this was reported for a Read of the operation
abbrev IsOfRead : Option Operation → Statuses → Type 0
IsOfRead stands told = (op : Operation) × (stands ≡ Some op) × IsTrue (is_read op.deed) × (told ≡ One successful_completion)

read_alone : (deed : Deed) → IsTrue (is_read deed) → is_pair deed ≡ false
read_alone (writes payload) h = refl
read_alone zeroes h = refl
read_alone uncorrectable h = refl
read_alone reads h = refl
read_alone (compares payload) h = refl
read_alone (pairs payload new) h = absurd (cc h)
read_alone (deallocates ranges) h = refl

one_success_is : (told : Statuses) → IsOneStatus told → IsSuccess told → told ≡ One successful_completion
one_success_is (One s) one h = ap (λ x. One x) h
one_success_is (Two s t) one h = absurd one

of_read : (ns : Namespace) (op : Operation) (parts : List Part) (told : Statuses) (read : Option (List ℕ)) → HasShapeOf ns op parts told read → IsSome read → IsOfRead (Some op) told
of_read ns op parts told read shape some =
    let gives = shape.payload.0 some in
    (op, refl, gives.0, one_success_is told (one_ending ns op parts told (read_alone op.deed gives.0) shape.ending) gives.1)

no_data_of : (read : Option (List ℕ)) → read ≡ None → IsSome read → ⊥
no_data_of None e some = cc some
no_data_of (Some bytes) e some = cc e

told_by : (ns : Namespace) (refused : Option Statuses) (stands : Option Operation) (parts : List Part) (told : Statuses) (read : Option (List ℕ))
    → MatchOption refused (IsSomeAnd stands (λ op. HasShapeOf ns op parts told read)) (λ refusal. HasShapeOfRefusal refusal parts told read)
    → IsSome read → IsOfRead stands told
told_by ns (Some refusal) stands parts told read h some = absurd (no_data_of read h.payload some)
told_by ns None (Some op) parts told read h some = of_read ns op parts told read h some
told_by ns None None parts told read h some = absurd h

pub data_told_of_read : (ns : Namespace) (job : Job) (parts : List Part) (told : Statuses) (read : Option (List ℕ)) → HasOutcomeShape ns job parts told read → IsSome read
    → (op : Operation) × (job_operation_of ns job ≡ Some op) × IsTrue (is_read op.deed) × (told ≡ One successful_completion)
data_told_of_read ns job parts told read = told_by ns (refusal_of ns job) (job_operation_of ns job) parts told read
