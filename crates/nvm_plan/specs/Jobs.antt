-- Which jobs the hosts' commands are, and their order, which is that in which one worker does them: Base
-- Specification, "Fused Operation"; that the hosts take turns is this project's own.
use Rattle.std.specs.Prelude.{◌≡◌, ◌⊎◌, ◌↔◌, ◌==◌, ℕ, ◌+◌, ◌<◌, ◌≤◌, List, [], ◌∷◌, ◌++◌, length, take, map}
use Rattle.std.specs.List.{All, Contains, filter, flat_map}
use Rattle.nvm_record.specs.Lists.{IsAt}
use Rattle.nvm_record.specs.declared.command.Command.{Command}
use Rattle.nvm_plan.specs.Profile.{IsFusedPair}
use Rattle.nvm_plan.specs.declared.job.Body.{Body}
use Rattle.nvm_plan.specs.declared.job.Body.TheVariants.{Single, Pair}
use Rattle.nvm_plan.specs.declared.job.Job.{Job}

-- the commands of a body
abbrev pub commands_of : Body → List Command
commands_of (Single c) = c ∷ []
commands_of (Pair c d) = c ∷ d ∷ []

-- Two commands that are one body are a fused pair.
abbrev pub IsBody : Body → Type 0
IsBody (Single c) = Unit {0}
IsBody (Pair c d) = IsFusedPair c d

-- These bodies are the jobs of one host's commands: neighbours that are a fused pair are one job, and
-- every other command is a job by itself.
pub record IsPairing (commands : List Command) (bodies : List Body) : Type 0 where
  -- no command is left out, doubled or out of its place
  pub whole : flat_map commands_of bodies ≡ commands
  pub paired : All IsBody bodies
  -- no neighbours that are by themselves are a fused pair
  pub alone : (before : List Body) (c d : Command) (after : List Body)
      → bodies ≡ before ++ Single c ∷ (Single d ∷ after) → ¬ (IsFusedPair c d)

-- the bodies of a host's jobs, in their order
abbrev pub bodies_of : ℕ → List Job → List Body
bodies_of host jobs = map (λ job. job.body) (filter (λ job. job.host == host) jobs)

-- At this place of the list is the host's job of this number, counted from 0.
pub record IsJobOf (host number : ℕ) (jobs : List Job) (place : ℕ) : Type 0 where
  pub there : IsAt (map (λ job. job.host) jobs) place host
  pub before : length (bodies_of host (take place jobs)) ≡ number

-- Job k of host h comes before job l of host i: the hosts take turns, in their order.
abbrev pub StandsBefore : ℕ → ℕ → ℕ → ℕ → Type 0
StandsBefore k h l i = (k < l) ⊎ ((k ≡ l) × (h < i))

-- These are the jobs of the hosts' commands, in their order.
pub record IsJobList (hosts : List (List Command)) (jobs : List Job) : Type 0 where
  -- each host's jobs are those of its commands; the first host's number is 1
  pub each : (place : ℕ) (commands : List Command) → IsAt hosts place commands
      → IsPairing commands (bodies_of (place + 1) jobs)
  -- and there is no other host
  pub known : All (λ job. (0 < job.host) × (job.host ≤ length hosts)) jobs
  pub order : (h k i l here there : ℕ) → IsJobOf h k jobs here → IsJobOf i l jobs there
      → (here < there) ↔ StandsBefore k h l i

-- The job is of one of the hosts, and so is each of its commands.
pub record IsOfHosts (hosts : List (List Command)) (job : Job) : Type 0 where
  pub place : ℕ
  pub number : job.host ≡ place + 1
  pub theirs : List Command
  pub listed : IsAt hosts place theirs
  pub commands : All (Contains theirs) (commands_of job.body)
  pub body : IsBody job.body
