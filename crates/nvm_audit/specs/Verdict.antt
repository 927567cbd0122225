-- What is reported of a lawful record (own).
use Rattle.std.specs.Prelude.{◌≡◌, ℕ, nat_eq, List, length, Bool, ◌&&◌, ◌||◌, count_by}
use Rattle.std.specs.List.{sum_by}
use Rattle.nvm_record.specs.declared.status.Status.{Status}
use Rattle.nvm_record.specs.declared.status.Statuses.{Statuses}
use Rattle.nvm_record.specs.declared.status.Statuses.TheVariants.{One, Two}
use Rattle.nvm_record.specs.Status.{internal_error}
use Rattle.nvm_audit.specs.declared.verdict.Verdict.{Verdict}
use Rattle.nvm_audit.specs.RecordedJob.{RecordedJob}
use Rattle.nvm_audit.specs.RecordView.{RecordView}

-- the status is 0/06: memory was refused, or a history was full
abbrev pub is_refusal : Status → Bool
is_refusal s = nat_eq s.sct internal_error.sct && nat_eq s.sc internal_error.sc

-- one of the statuses is
abbrev pub has_refusal : Statuses → Bool
has_refusal (One s) = is_refusal s
has_refusal (Two s t) = is_refusal s || is_refusal t

-- how many jobs were done to which memory was refused, or a history was full
abbrev pub refused_jobs : List (List RecordedJob) → ℕ
refused_jobs done = sum_by (λ work. count_by (λ d. has_refusal d.statuses) work) done

-- The verdict has the record's four numbers.
pub record IsVerdict (r : RecordView) (v : Verdict) : Type 0 where
  pub jobs : v.jobs ≡ length r.jobs
  pub units : v.units ≡ length r.units
  pub changes : v.changes ≡ sum_by (λ history. length history) r.units
  pub refused : v.refused ≡ refused_jobs r.done
