-- What a witness looks for, in which order, and which fault it names where it isn't so (own): the namespace, the jobs by number,
-- the preparations by number, then all that an audit looks for, the replies by number, and real time.
use Rattle.std.specs.Prelude.{◌≡◌, ℕ, ◌<◌}
use Rattle.nvm_audit.specs.LawfulRecord.{IsLawfulRecord}
use Rattle.nvm_audit.specs.RecordChecks.{IsFirstFault}
use Rattle.nvm_audit.specs.RecordView.{RecordView}
use Rattle.nvm_audit.specs.declared.audit_fault.Spot.{Spot}
use Rattle.nvm_trace.specs.declared.judging.Judging.{Judging}
use Rattle.nvm_trace.specs.declared.witness_fault.WitnessFault.{WitnessFault}
use Rattle.nvm_trace.specs.declared.witness_fault.WitnessFault.TheVariants.{NamespaceDiffers, JobDiffers, NoPreparation, Unlawful, ReplyDiffers, TimeBack, NoMemory}
use Rattle.nvm_trace.specs.ExplainedBy.{HasJob, IsPrepared, HasItsReply}
use Rattle.nvm_trace.specs.Pieces.{wholes}
use Rattle.nvm_trace.specs.Steps.{steps_of}
use Rattle.nvm_trace.specs.Timely.{IsFirstLate}
use Rattle.nvm_trace.specs.TraceView.{TraceView}

-- It is the first number of which it isn't so.
pub record IsFirstWithout (P : ℕ → Type 0) (number : ℕ) : Type 0 where
  pub before : (k : ℕ) → k < number → P k
  pub fails : ¬ (P number)

-- The first step that is late is of this job and at this spot: its unit and its point.
pub record IsFirstBack (judging : Judging) (t : TraceView) (r : RecordView) (job : ℕ) (spot : Spot) : Type 0 where
  pub place : ℕ
  pub first : IsFirstLate (steps_of (wholes judging t) r.done) place
  pub job_is : first.late.job ≡ job
  pub unit_is : first.late.unit ≡ spot.unit
  pub point_is : first.late.point ≡ spot.place

-- Nothing of the order up to the replies is wrong.
pub record HasJobsOf (judging : Judging) (t : TraceView) (r : RecordView) : Type 0 where
  pub namespace : r.namespace ≡ t.namespace
  pub jobs : (number : ℕ) → HasJob judging t r number
  pub prepared : (number : ℕ) → IsPrepared judging t r number

-- It is the first fault that a witness finds. Want of memory is none.
abbrev pub IsFirstWitnessFault : Judging → TraceView → RecordView → WitnessFault → Type 0
IsFirstWitnessFault judging t r NamespaceDiffers = ¬ (r.namespace ≡ t.namespace)
IsFirstWitnessFault judging t r (JobDiffers job) = (r.namespace ≡ t.namespace) × IsFirstWithout (HasJob judging t r) job
IsFirstWitnessFault judging t r (NoPreparation job) =
    (r.namespace ≡ t.namespace) × ((number : ℕ) → HasJob judging t r number) × IsFirstWithout (IsPrepared judging t r) job
IsFirstWitnessFault judging t r (Unlawful fault) = HasJobsOf judging t r × IsFirstFault r fault
IsFirstWitnessFault judging t r (ReplyDiffers job) = HasJobsOf judging t r × IsLawfulRecord r × IsFirstWithout (HasItsReply judging t r) job
IsFirstWitnessFault judging t r (TimeBack job spot) =
    HasJobsOf judging t r × IsLawfulRecord r × ((number : ℕ) → HasItsReply judging t r number) × IsFirstBack judging t r job spot
IsFirstWitnessFault judging t r NoMemory = ⊥
