-- The one spelling of a record in its version: all bytes of its file (own).
use Rattle.std.specs.Prelude.{ℕ, List, ◌++◌}
use Rattle.std.specs.List.{flat_map}
use Rattle.nvm_audit.specs.RecordView.{RecordView}
use Rattle.nvm_file.specs.Counted.{counted}
use Rattle.nvm_file.specs.HeadSpelling.{head_bytes}
use Rattle.nvm_file.specs.JobSpelling.{job_bytes}
use Rattle.nvm_file.specs.EntrySpelling.{history_bytes}
use Rattle.nvm_file.specs.WorkSpelling.{work_bytes}

-- The head, the jobs, the history of each unit, and what each worker did. There is no count of the units, which the namespace
-- tells, nor of the workers, which the head tells.
abbrev pub record_bytes : RecordView → List ℕ
record_bytes r =
    head_bytes r ++ (counted job_bytes r.jobs ++ (flat_map history_bytes r.units ++ flat_map work_bytes r.done))
