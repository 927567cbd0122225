-- One instance of a lawful record in which something was done: one command that changes blocks of one unit, done by the one
-- worker. With its entry the record is lawful, and without it it isn't.
use Rattle.std.specs.Prelude.{◌≡◌, ℕ, nat_eq, if◌then◌else◌, List, [], ◌∷◌, Some, None}
use Rattle.nvm_record.specs.declared.status.Statuses.TheVariants.{One}
use Rattle.nvm_record.specs.Deeds.{IsAct, IsSingle}
use Rattle.nvm_record.specs.Lists.{IsAt}
use Rattle.nvm_record.specs.Status.{successful_completion}
use Rattle.nvm_record.specs.Step.{Operation}
use Rattle.nvm_geometry.specs.Namespace.{Namespace}
use Rattle.nvm_geometry.specs.Parts.{units_met, part_in}
use Rattle.nvm_plan.specs.declared.job.Job.{Job}
use Rattle.nvm_plan.specs.declared.part.PartResult.TheVariants.{Done}
use Rattle.nvm_plan.specs.JobPart.{ready_operation}
use Rattle.nvm_store.specs.HistoryEntry.{HistoryEntry}
use Rattle.nvm_audit.specs.RecordedJob.{RecordedJob}
use Rattle.nvm_audit.specs.RecordView.{RecordView}

-- job 0, whose one part was done in this unit before any other change there
abbrev pub done_alone : ℕ → RecordedJob
done_alone unit =
    record {
      job = 0;
      parts = record { unit = unit; point = 0; result = Done } ∷ [];
      statuses = One successful_completion;
      payload = None;
    }

-- its entry, by worker 0
abbrev pub entry_alone : Namespace → Operation → ℕ → HistoryEntry
entry_alone ns op unit = record { pass = 0; job = 0; operation = part_in ns op unit }

-- The one job changes blocks by this operation, in this unit alone, and the one worker did it.
pub record IsOfOneAct (r : RecordView) (op : Operation) (unit : ℕ) : Type 0 where
  pub job : Job
  pub jobs : r.jobs ≡ job ∷ []
  pub ready : ready_operation r.namespace job ≡ Some op
  pub act : IsAct op.deed
  pub single : IsSingle op.deed
  pub one : units_met r.namespace op ≡ unit ∷ []
  pub done : r.done ≡ (done_alone unit ∷ []) ∷ []

-- This unit has exactly this history, and the others have no entry.
abbrev pub HasJust : RecordView → ℕ → List HistoryEntry → Type 0
HasJust r unit entries =
    (k : ℕ) (history : List HistoryEntry) → IsAt r.units k history → history ≡ (if nat_eq unit k then entries else [])
