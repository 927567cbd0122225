-- The expectations of lists, each beside the status with which its command ended. One is met where the two are the same. The
-- commands of a host's list are done in their order, so each takes the next expectation of that list.
use Rattle.std.specs.Prelude.{◌≡◌, ℕ, ◌-◌, List, [], ◌∷◌, ◌++◌, drop, map, Option, Some, None}
use lib.ListN.{get_or, set}
use Rattle.nvm_record.specs.declared.command.Command.{Command}
use Rattle.nvm_record.specs.declared.status.Status.{Status}
use Rattle.nvm_record.specs.declared.status.Statuses.{Statuses}
use Rattle.nvm_record.specs.declared.status.Statuses.TheVariants.{One, Two}
use Rattle.nvm_plan.specs.declared.job.Body.{Body}
use Rattle.nvm_plan.specs.declared.job.Body.TheVariants.{Single, Pair}
use Rattle.nvm_plan.specs.declared.job.Job.{Job}
use Rattle.nvm_audit.specs.RecordedJob.{RecordedJob}
use Rattle.nvm_audit.specs.RecordView.{RecordView}
use Rattle.nvm_audit.specs.DoneJobs.{AreDone}
use Rattle.nvm_listing.specs.declared.check.Check.{Check}

-- what each command of a list expects, of each list, host 1's first
abbrev pub Lists : Type 0
Lists = List (List (Option Status))

abbrev pub first_of : List (Option Status) → Option Status
first_of [] = None
first_of (expected ∷ more) = expected

-- what the list of a host expects of its next command
abbrev pub next_of : Lists → ℕ → Option Status
next_of lists host = first_of (get_or lists (host - 1) [])

-- what the lists expect after that
abbrev pub behind_next : Lists → ℕ → Lists
behind_next lists host = set lists (host - 1) (drop 1 (get_or lists (host - 1) []))

-- the expectation beside the status, where there is one
abbrev pub check_of : Option Status → ℕ → Command → Status → List Check
check_of None host c actual = []
check_of (Some expected) host c actual = record { host = host; cid = c.cid; op = c.op; expected = expected; actual = actual } ∷ []

-- of a host's job
abbrev pub checks_in : Lists → ℕ → Body → Statuses → List Check
checks_in lists host (Single c) (One status) = check_of (next_of lists host) host c status
checks_in lists host (Single c) (Two first second) = []
checks_in lists host (Pair c d) (One status) = []
checks_in lists host (Pair c d) (Two first second) =
    check_of (next_of lists host) host c first ++ check_of (next_of (behind_next lists host) host) host d second

-- what the lists expect after a host's job
abbrev pub behind_body : Lists → ℕ → Body → Lists
behind_body lists host (Single c) = behind_next lists host
behind_body lists host (Pair c d) = behind_next (behind_next lists host) host

-- of jobs that ended with these statuses
abbrev pub checks_of : Lists → List Job → List Statuses → List Check
checks_of lists [] ended = []
checks_of lists (job ∷ jobs) [] = []
checks_of lists (job ∷ jobs) (statuses ∷ ended) =
    checks_in lists job.host job.body statuses ++ checks_of (behind_body lists job.host job.body) jobs ended

-- These are the expectations of the lists, beside the statuses that the record has.
pub record AreChecksOf (lists : Lists) (r : RecordView) (checks : List Check) : Type 0 where
  pub its : List RecordedJob
  pub done : AreDone r.done 0 r.jobs its
  pub are : checks ≡ checks_of lists r.jobs (map (λ d. d.statuses) its)
