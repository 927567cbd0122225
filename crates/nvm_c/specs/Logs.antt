-- What a port of a recorded namespace keeps of what it did.
use Rattle.std.specs.Prelude.{◌≡◌, ℕ, ◌+◌, ◌%◌, ◌^◌, ◌<◌, Bool, false, if◌then◌else◌, List, [], ◌∷◌, ◌++◌, Option, Some, None, vec_len, vec_capacity}
use Rattle.nvm_record.specs.declared.status.Statuses.{Statuses}
use Rattle.nvm_record.specs.declared.status.Statuses.TheVariants as statuses
use Rattle.nvm_plan.specs.Completions.{data_in}
use Rattle.nvm_plan.specs.declared.completions.Completions.{Completions}
use Rattle.nvm_plan.specs.declared.completions.Completions.TheVariants.{One, Two}
use Rattle.nvm_plan.specs.declared.job.Job.{Job}
use Rattle.nvm_space.specs.declared.job_done.JobDone.{JobDone}
use Rattle.nvm_audit.specs.Recordable.{most_jobs}
use Rattle.nvm_audit.specs.RecordedJob.{RecordedJob}
use Rattle.nvm_c.specs.declared.log.Log.{Log}

-- the jobs that the port did, what a record shows of each, at the same place, and whether one more came than a record has
pub record LogState : Type 0 where
  pub jobs : List Job
  pub done : List RecordedJob
  pub full : Bool

abbrev pub log_state : Log → LogState
log_state l = record { jobs = l.jobs.items; done = l.done.items; full = l.full }

-- what is kept, if anything is
abbrev pub kept_by : Option Log → Option LogState
kept_by None = None
kept_by (Some l) = Some (log_state l)

-- There is room for one more job.
pub record HasRoom (l : Log) : Type 0 where
  pub jobs : vec_len l.jobs < vec_capacity l.jobs
  pub done : vec_len l.done < vec_capacity l.done

abbrev pub HasRoomIn : Option Log → Type 0
HasRoomIn None = Unit {0}
HasRoomIn (Some l) = HasRoom l

-- the statuses of a job's completions
abbrev pub statuses_in : Completions → Statuses
statuses_in (One completion) = statuses.One completion.status
statuses_in (Two first second) = statuses.Two first.status second.status

-- what a record shows of the job of this number, of which this was told
abbrev pub recorded_job : ℕ → JobDone → RecordedJob
recorded_job number told =
    record {
      job = number;
      parts = told.parts.items;
      statuses = statuses_in told.completions;
      payload = data_in told.completions;
    }

-- the log with one more job behind the others, as long as a record has so many
abbrev pub with_job : LogState → ℕ → Job → JobDone → LogState
with_job l number job told =
    if l.full then l else record { jobs = l.jobs ++ job ∷ []; done = l.done ++ recorded_job number told ∷ []; full = l.full }

-- what is kept once the job was done
abbrev pub with_kept : Option LogState → ℕ → Job → JobDone → Option LogState
with_kept None number job told = None
with_kept (Some l) number job told = Some (with_job l number job told)

-- The number of a job was drawn: where nothing is recorded the port's own next one. Else what was done stays as it is, and a number
-- above those that a record has makes the log full.
abbrev pub HasDrawn : ℕ → ℕ → Option LogState → Option LogState → ℕ → Type 0
HasDrawn next next' None log' number = (log' ≡ None) × (number ≡ next) × (next' ≡ (next + 1) % 2 ^ 32)
HasDrawn next next' (Some l) log' number =
    (next' ≡ next) × ((full : Bool) × (log' ≡ Some (record { jobs = l.jobs; done = l.done; full = full }))
    × (full ≡ false → (l.full ≡ false) × (number < most_jobs)))
