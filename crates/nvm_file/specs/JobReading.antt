-- A job in a record file: the number of its host, its kind, and its command or its two commands.
use Rattle.std.specs.Prelude.{ℕ, ◌==◌, List, if◌then◌else◌, Result, Ok}
use Rattle.nvm_plan.specs.declared.job.Body.{Body}
use Rattle.nvm_plan.specs.declared.job.Body.TheVariants.{Single, Pair}
use Rattle.nvm_plan.specs.declared.job.Job.{Job}
use Rattle.nvm_plan.specs.Fits.{most_hosts}
use Rattle.nvm_file.specs.declared.scope.Scope.{Scope}
use Rattle.nvm_file.specs.declared.record_fault.RecordFault.{RecordFault}
use Rattle.nvm_file.specs.declared.standing.Standing.TheVariants.{Alone, FirstOfPair, SecondOfPair}
use Rattle.nvm_file.specs.CommandReading.{command_at}
use Rattle.nvm_file.specs.Fields.{◌>>=◌, number_in}

-- a command by itself
unfoldable pub single_at : Scope → List ℕ → Result (Body × List ℕ) RecordFault
single_at scope bytes = do
  command ← command_at scope Alone bytes
  Ok (Single command.0, command.1)

-- the two commands of a fused pair
unfoldable pub pair_at : Scope → List ℕ → Result (Body × List ℕ) RecordFault
pair_at scope bytes = do
  first ← command_at scope FirstOfPair bytes
  second ← command_at scope SecondOfPair first.1
  Ok (Pair first.0 second.0, second.1)

-- what the kind says: 0 is a command by itself, and 1 a pair
abbrev pub body_at : ℕ → Scope → List ℕ → Result (Body × List ℕ) RecordFault
body_at kind scope bytes = if kind == 0 then single_at scope bytes else pair_at scope bytes

-- a job
unfoldable pub job_at : Scope → List ℕ → Result (Job × List ℕ) RecordFault
job_at scope bytes = do
  host ← number_in scope.total 2 1 most_hosts bytes
  kind ← number_in scope.total 1 0 1 host.1
  body ← body_at kind.0 scope kind.1
  Ok (record { host = host.0; body = body.0 }, body.1)
