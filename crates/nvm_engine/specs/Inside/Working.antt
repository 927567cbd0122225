-- What workers bring back, and what they were given.
use Rattle.std.specs.Prelude.{◌≡◌, ℕ, ◌<◌, List, map, length, All, Option, None, Result, Ok}
use Rattle.nvm_record.specs.declared.status.Statuses.{Statuses}
use Rattle.nvm_record.specs.declared.status.Statuses.TheVariants as statuses
use Rattle.nvm_record.specs.Lists.{IsAt}
use Rattle.nvm_plan.specs.declared.completions.Completions.{Completions}
use Rattle.nvm_plan.specs.declared.completions.Completions.TheVariants.{One, Two}
use Rattle.nvm_plan.specs.declared.job.Job.{Job}
use Rattle.nvm_unit.specs.Ends.{views_of}
use Rattle.nvm_space.specs.declared.job_done.JobDone.{JobDone}
use Rattle.nvm_space.specs.Ports.{PortState, IsPortOf, new_port}
use Rattle.nvm_space.specs.Spaces.{SpaceName}
use Rattle.nvm_audit.specs.RecordedJob.{RecordedJob}
use Rattle.nvm_engine.specs.Claims.{HasEnded}
use Rattle.nvm_engine.specs.Counters.{CounterName, ClaimView}
use Rattle.nvm_engine.specs.declared.worker.Worker.{Worker}
use Rattle.nvm_engine.specs.DoneJobs.{HaveDone}

-- the statuses of a job's completions
abbrev pub statuses_in : Completions → Statuses
statuses_in (One completion) = statuses.One completion.status
statuses_in (Two first second) = statuses.Two first.status second.status

-- the data of a job's completions, which those of a pair don't have
abbrev pub payload_in : Completions → Option (List ℕ)
payload_in (One completion) = completion.payload
payload_in (Two first second) = None

-- what a record shows of the job of this number, for which this was answered
abbrev pub recorded_job : ℕ → JobDone → RecordedJob
recorded_job number done =
    record {
      job = number;
      parts = done.parts.items;
      statuses = statuses_in done.completions;
      payload = payload_in done.completions;
    }

-- the numbers of these jobs
abbrev pub numbers_of : List RecordedJob → List ℕ
numbers_of work = map (λ d. d.job) work

-- The worker drew numbers until no job was left, and did exactly those jobs by this port, in the order of their draws.
pub record HasWorked (counter : CounterName) (s : SpaceName) (jobs : List Job) (port : PortState) (worker : Worker) : Type 0 where
  pub claim : worker.claim.table ≡ counter.table
  pub ended : HasEnded counter.jobs (numbers_of worker.done.items) worker.claim.drawn
  pub jobs_alone : All (λ x. x < counter.jobs) (numbers_of worker.done.items)
  pub of : IsPortOf s worker.port
  pub number : worker.port.number ≡ port.number
  pub done : HaveDone s.namespace jobs worker.done.items (views_of port.passes) (views_of worker.port.passes)

-- Workers that have ended, by their numbers: each has worked, by the port of its number, from when that was new.
pub record AllHaveWorked (counter : CounterName) (s : SpaceName) (jobs : List Job) (workers : List Worker) : Type 0 where
  pub count : length workers ≡ s.ports
  pub each : (number : ℕ) (worker : Worker) → IsAt workers number worker
      → HasWorked counter s jobs (new_port s.units number) worker

-- These are the claims, the ports and the done jobs of the workers, in their order.
pub record AreTheirs (workers : List Worker) (all_claims : List ClaimView) (all_ports : List PortState)
    (all_done : List (List RecordedJob)) : Type 0 where
  pub claims : all_claims ≡ map (λ worker. worker.claim) workers
  pub ports : all_ports ≡ map (λ worker. worker.port) workers
  pub done : all_done ≡ map (λ worker. worker.done.items) workers

-- These are the claims, the ports and the done jobs of workers that have all ended, each with success.
abbrev pub AreOfResults : {Fault : Type 0} → List (Result Worker Fault) → List ClaimView → List PortState → List (List RecordedJob) → Type 0
AreOfResults results claims ports done =
    (workers : List Worker) × (results ≡ map Ok workers) × AreTheirs workers claims ports done

abbrev pub AreOfWorkers : CounterName → SpaceName → List Job → List ClaimView → List PortState → List (List RecordedJob) → Type 0
AreOfWorkers counter s jobs claims ports done =
    (workers : List Worker) × AllHaveWorked counter s jobs workers × AreTheirs workers claims ports done
