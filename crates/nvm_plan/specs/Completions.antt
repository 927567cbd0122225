-- What is reported to a host about a job: a completion for each of its commands.
use Rattle.std.specs.Prelude.{ℕ, List, Option, None}
use Rattle.nvm_record.specs.declared.command.Command.{Command}
use Rattle.nvm_record.specs.declared.completion.Completion.{Completion}
use Rattle.nvm_record.specs.declared.status.Status.{Status}
use Rattle.nvm_record.specs.declared.status.Statuses.{Statuses}
use Rattle.nvm_record.specs.declared.status.Statuses.TheVariants.{One, Two}
use Rattle.nvm_plan.specs.declared.completions.Completions.{Completions}
use Rattle.nvm_plan.specs.declared.completions.Completions.TheVariants as completions
use Rattle.nvm_plan.specs.declared.job.Body.{Body}
use Rattle.nvm_plan.specs.declared.job.Body.TheVariants.{Single, Pair}
use Rattle.nvm_plan.specs.declared.job.Job.{Job}

-- what is reported to the host about its command
abbrev pub completion : ℕ → Command → Status → Option (List ℕ) → Completion
completion host c status payload = record { host = host; cid = c.cid; status = status; payload = payload }

-- the status of the first command, and of the second; what is there where there is one status alone, is never asked for
abbrev pub first_status : Statuses → Status
first_status (One s) = s
first_status (Two s t) = s

abbrev pub second_status : Statuses → Status
second_status (One s) = s
second_status (Two s t) = t

-- A command by itself has the job's data, and the commands of a pair have none.
abbrev pub body_completions : ℕ → Body → Statuses → Option (List ℕ) → Completions
body_completions host (Single c) statuses payload = completions.One (completion host c (first_status statuses) payload)
body_completions host (Pair c d) statuses payload =
    completions.Two (completion host c (first_status statuses) None) (completion host d (second_status statuses) None)

-- the completions of a job with these statuses and this data
abbrev pub completions_of : Job → Statuses → Option (List ℕ) → Completions
completions_of job statuses payload = body_completions job.host job.body statuses payload

-- the data of a job's completions, which those of a pair don't have
abbrev pub data_in : Completions → Option (List ℕ)
data_in (completions.One c) = c.payload
data_in (completions.Two c d) = None
