-- With which statuses jobs ended, and how many jobs with each.
use Rattle.std.specs.Prelude.{ℕ, ◌==◌, ◌&&◌, ◌++◌, if◌then◌else◌, Bool, false, List, [], ◌∷◌, count_by, flat_map, map}
use Rattle.std.specs.List.{list_any, sum_by}
use Rattle.nvm_record.specs.declared.status.Status.{Status}
use Rattle.nvm_record.specs.declared.status.Statuses.{Statuses}
use Rattle.nvm_record.specs.declared.status.Statuses.TheVariants.{One, Two}
use Rattle.nvm_audit.specs.RecordedJob.{RecordedJob}
use Rattle.nvm_explain.specs.Once.{once}

abbrev pub same_status : Status → Status → Bool
same_status s t = s.sct == t.sct && s.sc == t.sc

-- both are of the same number of commands, and have the same status for each
abbrev pub same_statuses : Statuses → Statuses → Bool
same_statuses (One s) (One t) = same_status s t
same_statuses (One s) (Two t u) = false
same_statuses (Two s t) (One u) = false
same_statuses (Two s t) (Two u v) = same_status s u && same_status t v

-- the statuses of all jobs that were done, worker by worker
abbrev pub all_statuses : List (List RecordedJob) → List Statuses
all_statuses done = flat_map (λ work. map (λ d. d.statuses) work) done

-- the statuses with which jobs ended, in the order in which they first occur
abbrev pub different_statuses : List (List RecordedJob) → List Statuses
different_statuses done = once same_statuses (all_statuses done)

-- how many jobs ended with these
abbrev pub jobs_with : Statuses → List (List RecordedJob) → ℕ
jobs_with statuses done = sum_by (λ work. count_by (λ d. same_statuses d.statuses statuses) work) done

-- these are among those that were met
abbrev pub is_met : List Statuses → Statuses → Bool
is_met met statuses = list_any (λ other. same_statuses statuses other) met

-- those that were met, with these after them if they weren't
abbrev pub met_with : List Statuses → Statuses → List Statuses
met_with met statuses = if is_met met statuses then met else met ++ statuses ∷ []
