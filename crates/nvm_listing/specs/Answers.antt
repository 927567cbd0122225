-- What the hosts of a run were answered: an answer for each command, in the order of the jobs, a pair's first command first.
use Rattle.std.specs.Prelude.{◌≡◌, ℕ, List, [], ◌∷◌, ◌++◌, Option, None, option_map}
use Rattle.nvm_record.specs.declared.command.Command.{Command}
use Rattle.nvm_record.specs.declared.status.Status.{Status}
use Rattle.nvm_record.specs.declared.status.Statuses.{Statuses}
use Rattle.nvm_record.specs.declared.status.Statuses.TheVariants.{One, Two}
use Rattle.nvm_plan.specs.declared.job.Body.{Body}
use Rattle.nvm_plan.specs.declared.job.Body.TheVariants.{Single, Pair}
use Rattle.nvm_plan.specs.declared.job.Job.{Job}
use Rattle.nvm_audit.specs.RecordedJob.{RecordedJob}
use Rattle.nvm_audit.specs.RecordView.{RecordView}
use Rattle.nvm_audit.specs.DoneJobs.{AreDone}
use Rattle.nvm_listing.specs.declared.answer.Answer.{Answer}

-- the host's number, its command, the status, and the data of a Read, if there is any
pub record Answered : Type 0 where
  pub host : ℕ
  pub command : Command
  pub status : Status
  pub answered : Option (List ℕ)

abbrev pub answer_with : ℕ → Command → Status → Option (List ℕ) → Answered
answer_with host c status answered = record { host = host; command = c; status = status; answered = answered }

abbrev pub answer_of : Answer → Answered
answer_of a = answer_with a.host a.command.now a.status (option_map (λ read. read.now) a.answered)

-- A command by itself has the job's data, and the commands of a pair have none. Statuses that aren't of the body's commands are no
-- answer; a lawful record has none of these.
abbrev pub body_answers : ℕ → Body → Statuses → Option (List ℕ) → List Answered
body_answers host (Single c) (One status) payload = answer_with host c status payload ∷ []
body_answers host (Single c) (Two first second) payload = []
body_answers host (Pair c d) (One status) payload = []
body_answers host (Pair c d) (Two first second) payload = answer_with host c first None ∷ answer_with host d second None ∷ []

-- the answers of a job that was done so
abbrev pub job_answers : Job → RecordedJob → List Answered
job_answers job its = body_answers job.host job.body its.statuses its.payload

-- the answers of jobs
abbrev pub answers_of : List Job → List RecordedJob → List Answered
answers_of [] done = []
answers_of (job ∷ jobs) [] = []
answers_of (job ∷ jobs) (its ∷ done) = job_answers job its ++ answers_of jobs done

-- They are the answers of the record's commands, by what was done.
pub record AreAnswersOf (r : RecordView) (answers : List Answered) : Type 0 where
  pub its : List RecordedJob
  pub done : AreDone r.done 0 r.jobs its
  pub are : answers ≡ answers_of r.jobs its
