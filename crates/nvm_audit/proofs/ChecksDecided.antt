-- Whether a check of a record passes is decided.
use Rattle.std.proofs.Common.{◌≡◌, ◌⊎◌, ℕ, List, length, not, Option, Some, None, refl, sym, ap, subst, ◌∙◌, inl, inr}
use Rattle.std.proofs.lemmas.Bool.{cases_eq}
use Rattle.std.proofs.lemmas.Option.{none-some, same_Some}
use Rattle.nvm_record.specs.declared.block.Block.{Block}
use Rattle.nvm_record.specs.Deeds.{is_look, FailsOn, success_of}
use Rattle.nvm_record.specs.Lists.{IsAt}
use Rattle.nvm_record.specs.Medium.{Medium}
use Rattle.nvm_record.specs.Step.{Deed, Operation, writes, zeroes, uncorrectable, reads, compares, pairs, deallocates, compares_equal, range_of, statuses_of, data_of}
use Rattle.nvm_geometry.specs.Namespace.{Namespace}
use Rattle.nvm_geometry.specs.Parts.{part_in}
use Rattle.nvm_plan.specs.declared.job.Job.{Job}
use Rattle.nvm_plan.specs.declared.part.PartResult.{PartResult}
use Rattle.nvm_plan.specs.declared.part.PartResult.TheVariants.{Done, Failed, Looked, NoMemory, Full}
use Rattle.nvm_plan.specs.JobPart.{ready_operation, job_part_in}
use Rattle.nvm_plan.specs.Shape.{HasOutcomeShape}
use Rattle.nvm_store.specs.HistoryEntry.{HistoryEntry}
use Rattle.nvm_store.specs.Point.{point}
use Rattle.nvm_audit.specs.LawfulRecord.{times_done, HasItsShape}
use Rattle.nvm_audit.specs.LawfulUnit.{IsPartOfItsJob, MadeEntry, IsClaimed, HasMadeEntry}
use Rattle.nvm_audit.specs.PointOrder.{least_after, IsNotBefore}
use Rattle.nvm_audit.specs.RecordChecks.{RecordCheck, job_done, job_once, shape_right, in_unit, Passes, HaveShapesOf}
use Rattle.nvm_audit.specs.RecordedJob.{RecordedJob}
use Rattle.nvm_audit.specs.RecordedPart.{RecordedPart, told_of}
use Rattle.nvm_audit.specs.RecordView.{RecordView}
use Rattle.nvm_audit.specs.Resting.{DoesOperation, HasRightStatus, data_in, HasRightData}
use Rattle.nvm_audit.specs.UnitChecks.{UnitCheck, entry_right, entry_claimed, point_there, point_on, status_right, payload_right, PassesInUnit}
use Rattle.nvm_audit.specs.UnitView.{UnitView}
use Rattle.nvm_audit.proofs.Decided.{IsDecided, with_it, both, where_so, is_true, is_false, below, at_most, at_place, all_of, each_at, some_at}
use Rattle.nvm_audit.proofs.SameData.{statuses, payloads, results, success, operations}
use Rattle.nvm_audit.proofs.ShapeDecided.{outcome_shape}
use Rattle.nvm_audit.proofs.Standing.{one_there}
use Rattle.nvm_audit.proofs.UnitChecksPass.{one_operation}

its_shape : (ns : Namespace) (jobs : List Job) (d : RecordedJob) → IsDecided (HasItsShape ns jobs d)
its_shape ns jobs d = elim (at_place jobs d.job) [
  | inl found ↦
      with_it (λ shape. record { job = found.0; its = found.1; shape = shape })
      (λ has.
      subst (λ (job : Job). HasOutcomeShape ns job d.parts d.statuses d.payload) (one_there jobs d.job has.job found.0 has.its found.1)
      has.shape) (outcome_shape ns found.0 d.parts d.statuses d.payload)
  | inr none ↦ inr (λ has. none has.job has.its)
]

shapes_of : (r : RecordView) (number : ℕ) → IsDecided (HaveShapesOf r number)
shapes_of r number =
    with_it (λ each worker work k d there at is. each worker work there k d at is)
    (λ each worker work there k d at is. each worker work k d there at is)
    (each_at
    (λ (work : List RecordedJob). (k : ℕ) (d : RecordedJob) → IsAt work k d → d.job ≡ number → HasItsShape r.namespace r.jobs d)
    (λ work.
    each_at (λ (d : RecordedJob). d.job ≡ number → HasItsShape r.namespace r.jobs d)
    (λ d. where_so (cases_eq d.job number) (its_shape r.namespace r.jobs d)) work)
    r.done)

-- the operation by which a job is done, if it is done by one
its_operation : (ns : Namespace) (jobs : List Job) (number : ℕ)
    → ((whole : Operation) × DoesOperation ns jobs number whole) ⊎ ((whole : Operation) → DoesOperation ns jobs number whole → ⊥)
its_operation ns jobs number = elim (at_place jobs number) [
  | inl found ↦ by_ready found.0 found.1 (ready_operation ns found.0) refl
  | inr none ↦ inr (λ whole does. none does.job does.its)
]
  where
    by_ready : (job : Job) → IsAt jobs number job → (ready : Option Operation) → ready_operation ns job ≡ ready
        → ((whole : Operation) × DoesOperation ns jobs number whole) ⊎ ((whole : Operation) → DoesOperation ns jobs number whole → ⊥)
    by_ready job its (Some whole) e = inl (whole, record { job = job; its = its; ready = e })
    by_ready job its None e =
        inr
        (λ whole does.
        let same : ready_operation ns does.job ≡ ready_operation ns job =
        ap (λ (j : Job). ready_operation ns j) (one_there jobs number does.job job does.its its) in
        none-some whole (sym e ∙ sym same ∙ does.ready))

fails_on : (blocks : List Block) (deed : Deed) → IsDecided (FailsOn blocks deed)
fails_on blocks (writes payload) = inr (λ h. h)
fails_on blocks zeroes = inr (λ h. h)
fails_on blocks uncorrectable = inr (λ h. h)
fails_on blocks reads = inr (λ h. h)
fails_on blocks (compares payload) = inr (λ h. h)
fails_on blocks (pairs payload new) = is_false (compares_equal blocks payload)
fails_on blocks (deallocates ranges) = inr (λ h. h)

right_status : (size limit : ℕ) (history : List HistoryEntry) (op : Operation) (p : RecordedPart) (result : PartResult)
    → IsDecided (HasRightStatus size limit history op p result)
right_status size limit history op p Done = statuses (success_of op.deed) (statuses_of op (point size history p.part.point))
right_status size limit history op p Failed =
    both (fails_on (range_of op (point size history p.part.point)) op.deed)
    (statuses (told_of p) (statuses_of op (point size history p.part.point)))
right_status size limit history op p Looked = statuses (told_of p) (statuses_of op (point size history p.part.point))
right_status size limit history op p NoMemory =
    where_so (is_true (not (is_look op.deed)))
    (both (success (statuses_of op (point size history p.part.point))) (below p.part.point limit))
right_status size limit history op p Full =
    both (success (statuses_of op (point size history p.part.point))) (cases_eq p.part.point limit)

right_data : (ns : Namespace) (whole : Operation) (m : Medium) (p : RecordedPart) (read : Option (List ℕ)) → p.done.payload ≡ read
    → IsDecided (HasRightData ns whole m p)
right_data ns whole m p None e = inl (λ bytes is. absurd (none-some bytes (sym e ∙ is)))
right_data ns whole m p (Some bytes) e =
    with_it
    (λ same other is.
    subst (λ (l : List ℕ). data_of (part_in ns whole p.part.unit) m ≡ Some (data_in ns whole p.part.unit l))
    (same_Some bytes other (sym e ∙ is)) same)
    (λ all. all bytes e) (payloads (data_of (part_in ns whole p.part.unit) m) (Some (data_in ns whole p.part.unit bytes)))

made_entry : (i : ℕ) (entry : HistoryEntry) (p : RecordedPart) → IsDecided (MadeEntry i entry p)
made_entry i entry p =
    with_it (λ h. record { worker = h.0.0; job = h.0.1; result = h.1.0; point = h.1.1 })
    (λ h. ((h.worker, h.job), (h.result, h.point)))
    (both (both (cases_eq entry.pass p.worker) (cases_eq entry.job p.done.job)) (both (results p.part.result Done) (cases_eq p.part.point i)))

claimed : (parts : List RecordedPart) (i : ℕ) (entry : HistoryEntry) → IsDecided (IsClaimed parts i entry)
claimed parts i entry = some_at (λ p. MadeEntry i entry p) (made_entry i entry) parts

has_made : (history : List HistoryEntry) (p : RecordedPart) → IsDecided (HasMadeEntry history p)
has_made history p = elim (at_place history p.part.point) [
  | inl found ↦
      with_it (λ made. (found.0, found.1, made))
      (λ has.
      subst (λ (e : HistoryEntry). MadeEntry p.part.point e p) (one_there history p.part.point has.0 found.0 has.1 found.1) has.2)
      (made_entry p.part.point found.0 p)
  | inr none ↦ inr (λ has. none has.0 has.1)
]

not_before : (earlier later : RecordedPart) → IsDecided (IsNotBefore earlier later)
not_before earlier later =
    where_so (cases_eq later.worker earlier.worker) (at_most (least_after earlier.part earlier.part.result) later.part.point)

module _ (r : RecordView) where
  part_of_job : (ns : Namespace) (jobs : List Job) (unit : ℕ) (entry : HistoryEntry) → IsDecided (IsPartOfItsJob ns jobs unit entry)
  part_of_job ns jobs unit entry = elim (at_place jobs entry.job) [
    | inl found ↦
        with_it (λ part. record { job = found.0; its = found.1; part = part })
        (λ has.
        subst (λ (job : Job). job_part_in ns job unit ≡ Some entry.operation) (one_there jobs entry.job has.job found.0 has.its found.1)
        has.part) (same_part (job_part_in ns found.0 unit) entry.operation)
    | inr none ↦ inr (λ has. none has.job has.its)
  ]
    where
      same_part : (part : Option Operation) (op : Operation) → IsDecided (part ≡ Some op)
      same_part None op = inr (λ e. none-some op e)
      same_part (Some part) op = with_it (ap (λ (x : Operation). Some x)) (same_Some part op) (operations r part op)

  in_unit_decided : (u : UnitView) (check : UnitCheck) → IsDecided (PassesInUnit u check)
  in_unit_decided u (entry_right place entry) =
      with_it (λ h. record { part = h.0; success = h.1 }) (λ h. (h.part, h.success))
      (both (part_of_job u.namespace u.jobs u.unit entry)
      (success (statuses_of entry.operation (point u.namespace.block_size u.history place))))
  in_unit_decided u (entry_claimed place entry) = claimed u.parts place entry
  in_unit_decided u (point_there p) =
      with_it (λ h. record { within = h.0; made = h.1 }) (λ h. (h.within, h.made))
      (both (at_most p.part.point (length u.history)) (where_so (results p.part.result Done) (has_made u.history p)))
  in_unit_decided u (point_on before p) = all_of (λ earlier. IsNotBefore earlier p) (λ earlier. not_before earlier p) before
  in_unit_decided u (status_right p) = elim (its_operation u.namespace u.jobs p.done.job) [
    | inl found ↦
        with_it (λ status. record { whole = found.0; does = found.1; status = status })
        (λ has.
        subst
        (λ (whole : Operation). HasRightStatus u.namespace.block_size u.limit u.history (part_in u.namespace whole p.part.unit) p p.part.result)
        (one_operation u.namespace u.jobs p.done.job has.whole found.0 has.does found.1) has.status)
        (right_status u.namespace.block_size u.limit u.history (part_in u.namespace found.0 p.part.unit) p p.part.result)
    | inr none ↦ inr (λ has. none has.whole has.does)
  ]
  in_unit_decided u (payload_right p) = elim (its_operation u.namespace u.jobs p.done.job) [
    | inl found ↦
        with_it (λ payload. record { whole = found.0; does = found.1; payload = payload })
        (λ has.
        subst (λ (whole : Operation). HasRightData u.namespace whole (point u.namespace.block_size u.history p.part.point) p)
        (one_operation u.namespace u.jobs p.done.job has.whole found.0 has.does found.1) has.payload)
        (right_data u.namespace found.0 (point u.namespace.block_size u.history p.part.point) p p.done.payload refl)
    | inr none ↦ inr (λ has. none has.whole has.does)
  ]

  pub check_decided : (check : RecordCheck) → IsDecided (Passes r check)
  check_decided (job_done number) = below 0 (times_done number r.done)
  check_decided (job_once number) = at_most (times_done number r.done) 1
  check_decided (shape_right number) = shapes_of r number
  check_decided (in_unit u check) = in_unit_decided u check
