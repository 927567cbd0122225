-- What a record shows of one unit (own): all by which the unit is judged.
use Rattle.std.specs.Prelude.{ℕ, List}
use Rattle.nvm_geometry.specs.Namespace.{Namespace}
use Rattle.nvm_plan.specs.declared.job.Job.{Job}
use Rattle.nvm_store.specs.HistoryEntry.{HistoryEntry}
use Rattle.nvm_audit.specs.RecordedPart.{RecordedPart, parts_in_unit}
use Rattle.nvm_audit.specs.RecordView.{RecordView}

-- The namespace, the limit and the jobs are the whole record's; then the unit's number, its history, and the parts that name
-- it.
pub record UnitView : Type 0 where
  pub namespace : Namespace
  pub limit : ℕ
  pub jobs : List Job
  pub unit : ℕ
  pub history : List HistoryEntry
  pub parts : List RecordedPart

-- what the record shows of the unit of this number, which has this history
abbrev pub view_of_unit : RecordView → ℕ → List HistoryEntry → UnitView
view_of_unit r unit history =
    record {
      namespace = r.namespace;
      limit = r.limit;
      jobs = r.jobs;
      unit = unit;
      history = history;
      parts = parts_in_unit unit r.done;
    }
