-- Whether plain data of records is the same is decided.
use Rattle.std.proofs.Common.{◌≡◌, ℕ, List, [], ◌∷◌, Option, None, ap}
use Rattle.nvm_record.specs.declared.status.Status.{Status}
use Rattle.nvm_record.specs.declared.status.Statuses.{Statuses}
use Rattle.nvm_record.specs.declared.status.Statuses.TheVariants.{One, Two}
use Rattle.nvm_record.specs.Status.{IsSuccess, successful_completion}
use Rattle.nvm_record.specs.Step.{Operation}
use Rattle.nvm_plan.specs.declared.part.Part.{Part}
use Rattle.nvm_plan.specs.declared.part.PartResult.{PartResult}
use Rattle.nvm_plan.specs.declared.part.PartResult.TheVariants.{Done}
use Rattle.nvm_store.specs.HistoryEntry.{HistoryEntry}
use Rattle.nvm_audit.specs.RecordedJob.{RecordedJob}
use Rattle.nvm_audit.specs.RecordView.{RecordView}
use Rattle.nvm_audit.proofs.Codes.{same_done_jobs, same_records}
use Rattle.nvm_audit.proofs.Decided.{IsDecided, with_it, both}

abbrev with_statuses : Statuses → RecordedJob
with_statuses told = record { job = 0; parts = []; statuses = told; payload = None }

abbrev with_payload : Option (List ℕ) → RecordedJob
with_payload read = record { job = 0; parts = []; statuses = One successful_completion; payload = read }

abbrev with_result : PartResult → RecordedJob
with_result result =
    record {
      job = 0;
      parts = record { unit = 0; point = 0; result = result } ∷ [];
      statuses = One successful_completion;
      payload = None;
    }

abbrev first_result : List Part → PartResult
first_result [] = Done
first_result (part ∷ parts) = part.result

pub statuses : (told other : Statuses) → IsDecided (told ≡ other)
statuses told other =
    with_it (ap (λ (d : RecordedJob). d.statuses)) (ap with_statuses)
    (same_done_jobs (with_statuses told) (with_statuses other))

pub payloads : (read other : Option (List ℕ)) → IsDecided (read ≡ other)
payloads read other =
    with_it (ap (λ (d : RecordedJob). d.payload)) (ap with_payload)
    (same_done_jobs (with_payload read) (with_payload other))

pub results : (result other : PartResult) → IsDecided (result ≡ other)
results result other =
    with_it (ap (λ (d : RecordedJob). first_result d.parts)) (ap with_result)
    (same_done_jobs (with_result result) (with_result other))

abbrev first_status : Statuses → Status
first_status (One s) = s
first_status (Two s t) = s

a_status : (s t : Status) → IsDecided (s ≡ t)
a_status s t = with_it (ap first_status) (ap One) (statuses (One s) (One t))

pub success : (told : Statuses) → IsDecided (IsSuccess told)
success (One s) = a_status s successful_completion
success (Two s t) = both (a_status s successful_completion) (a_status t successful_completion)

module _ (r : RecordView) where
  abbrev with_operation : Operation → RecordView
  with_operation op =
      record {
        version = r.version;
        namespace = r.namespace;
        limit = r.limit;
        workers = r.workers;
        jobs = r.jobs;
        units = (record { pass = 0; job = 0; operation = op } ∷ []) ∷ [];
        done = r.done;
      }

  abbrev first_of : Operation → List HistoryEntry → Operation
  first_of op [] = op
  first_of op (entry ∷ entries) = entry.operation

  abbrev first_operation : Operation → List (List HistoryEntry) → Operation
  first_operation op [] = op
  first_operation op (history ∷ histories) = first_of op history

  pub operations : (op other : Operation) → IsDecided (op ≡ other)
  operations op other =
      with_it (ap (λ (v : RecordView). first_operation op v.units)) (ap with_operation)
      (same_records (with_operation op) (with_operation other))
