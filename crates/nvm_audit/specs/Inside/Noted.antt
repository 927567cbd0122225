-- Where the done jobs of the first workers are.
use Rattle.std.specs.Prelude.{ℕ, ◌<◌, List}
use Rattle.nvm_record.specs.Lists.{IsAt}
use Rattle.nvm_audit.specs.RecordedJob.{RecordedJob}
use Rattle.nvm_audit.specs.declared.done_jobs.DonePlace.{DonePlace}
use Rattle.nvm_audit.specs.DonePlaces.{IsNoted}

-- It is noted of each done job of the first workers.
abbrev pub AreNoted : ℕ → List (List RecordedJob) → List DonePlace → Type 0
AreNoted workers done places =
    (worker : ℕ) (work : List RecordedJob) (place : ℕ) (d : RecordedJob) → worker < workers → IsAt done worker work
    → IsAt work place d → IsNoted done places d.job
