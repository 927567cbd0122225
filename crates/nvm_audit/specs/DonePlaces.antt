-- Where the done jobs of a record are, by the numbers of their jobs.
use Rattle.std.specs.Prelude.{◌≡◌, ℕ, ◌<◌, List, length}
use Rattle.nvm_record.specs.Lists.{IsAt}
use Rattle.nvm_audit.specs.RecordedJob.{RecordedJob}
use Rattle.nvm_audit.specs.RecordView.{RecordView}
use Rattle.nvm_audit.specs.declared.done_jobs.DonePlace.{DonePlace}

-- The done job of this number is at this place.
pub record IsDonePlace (done : List (List RecordedJob)) (number : ℕ) (place : DonePlace) : Type 0 where
  pub work : List RecordedJob
  pub its : RecordedJob
  pub by : IsAt done place.worker work
  pub there : IsAt work place.place its
  pub number_is : its.job ≡ number

-- It is noted where the done job of this number is.
pub record IsNoted (done : List (List RecordedJob)) (places : List DonePlace) (number : ℕ) : Type 0 where
  pub there : DonePlace
  pub noted : IsAt places number there
  pub is : IsDonePlace done number there

-- It is noted of each job of the record where its done job is.
abbrev pub AreDonePlaces : RecordView → List DonePlace → Type 0
AreDonePlaces r places = (number : ℕ) → number < length r.jobs → IsNoted r.done places number
