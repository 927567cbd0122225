-- What an auditor looks for in a record, in which order, and which fault it names where it isn't so (own). First that each job
-- was done once, by the jobs' numbers; then that each has the shape of an outcome, by the jobs' numbers; then the units.
use Rattle.std.specs.Prelude.{◌≡◌, ℕ, ◌+◌, ◌<◌, ◌≤◌, List, [], ◌∷◌, ◌++◌, length, map, None}
use Rattle.std.specs.List.{AllByRecursion, flat_map, range_with_len}
use Rattle.nvm_record.specs.Lists.{IsAt}
use Rattle.nvm_store.specs.HistoryEntry.{HistoryEntry}
use Rattle.nvm_audit.specs.declared.audit_fault.AuditFault.{AuditFault}
use Rattle.nvm_audit.specs.declared.audit_fault.AuditFault.TheVariants.{JobMissing, JobTwice, StatusWrong}
use Rattle.nvm_audit.specs.FirstFailed.{IsFirstFailed}
use Rattle.nvm_audit.specs.LawfulRecord.{times_done, HasItsShape}
use Rattle.nvm_audit.specs.RecordedJob.{RecordedJob}
use Rattle.nvm_audit.specs.RecordView.{RecordView}
use Rattle.nvm_audit.specs.UnitChecks.{UnitCheck, PassesInUnit, unit_checks, fault_in}
use Rattle.nvm_audit.specs.UnitView.{UnitView, view_of_unit}

-- one thing that is looked for in a record
pub data RecordCheck : Type 0 where
  -- Some worker did the job of this number.
  job_done : ℕ → RecordCheck
  -- The job of this number was done no more than once.
  job_once : ℕ → RecordCheck
  -- What was done of the job of this number has the shape of its outcome.
  shape_right : ℕ → RecordCheck
  -- what is looked for in this unit
  in_unit : UnitView → UnitCheck → RecordCheck

-- What was done of the job of this number, however often it was, has the shape of its outcome.
abbrev pub HaveShapesOf : RecordView → ℕ → Type 0
HaveShapesOf r number =
    (worker : ℕ) (work : List RecordedJob) (k : ℕ) (d : RecordedJob) → IsAt r.done worker work → IsAt work k d
    → d.job ≡ number → HasItsShape r.namespace r.jobs d

-- The check passes.
abbrev pub Passes : RecordView → RecordCheck → Type 0
Passes r (job_done number) = 0 < times_done number r.done
Passes r (job_once number) = times_done number r.done ≤ 1
Passes r (shape_right number) = HaveShapesOf r number
Passes r (in_unit u check) = PassesInUnit u check

-- that each of the jobs was done once
abbrev pub count_checks : ℕ → List RecordCheck
count_checks jobs = flat_map (λ number. job_done number ∷ job_once number ∷ []) (range_with_len 0 jobs)

-- that each of the jobs has the shape of its outcome
abbrev pub shape_checks : ℕ → List RecordCheck
shape_checks jobs = map shape_right (range_with_len 0 jobs)

-- what is looked for in the units of these histories, the first of which has this number
abbrev pub checks_of_units : RecordView → ℕ → List (List HistoryEntry) → List RecordCheck
checks_of_units r unit [] = []
checks_of_units r unit (history ∷ rest) =
    map (in_unit (view_of_unit r unit history)) (unit_checks (view_of_unit r unit history)) ++ checks_of_units r (unit + 1) rest

-- all that is looked for in a record, in its order
abbrev pub record_checks : RecordView → List RecordCheck
record_checks r = count_checks (length r.jobs) ++ shape_checks (length r.jobs) ++ checks_of_units r 0 r.units

-- the fault that a check finds
abbrev pub fault_of : RecordCheck → AuditFault
fault_of (job_done number) = JobMissing number
fault_of (job_once number) = JobTwice number
fault_of (shape_right number) = StatusWrong number None
fault_of (in_unit u check) = fault_in u.unit check

-- Nothing is wrong in the record: no check fails.
abbrev pub HasNoFault : RecordView → Type 0
HasNoFault r = AllByRecursion (Passes r) (record_checks r)

-- It is the first fault of the record: what the first check finds that doesn't pass.
pub record IsFirstFault (r : RecordView) (fault : AuditFault) : Type 0 where
  pub check : RecordCheck
  pub first : IsFirstFailed (Passes r) (record_checks r) check
  pub is : fault ≡ fault_of check
