-- A job in a trace's file: as it stands in a record of the second version, then when it began, when it ended, and what came back.
use Rattle.std.specs.Prelude.{ℕ, ◌==◌, nat_lt, List, if◌then◌else◌, Option, None, Some, Result, Ok, Err}
use Rattle.nvm_plan.specs.declared.job.Body.{Body}
use Rattle.nvm_plan.specs.Operation.{operation_of_body}
use Rattle.nvm_trace.specs.declared.traced_job.Ending.{Ending}
use Rattle.nvm_trace.specs.declared.traced_job.TracedJob.{TracedJob}
use Rattle.nvm_file.specs.declared.record_fault.RecordFault.{RecordFault}
use Rattle.nvm_file.specs.declared.scope.Scope.{Scope}
use Rattle.nvm_file.specs.declared.trace_file_fault.TraceFileFault.{TraceFileFault}
use Rattle.nvm_file.specs.declared.trace_file_fault.TraceFileFault.TheVariants.{BeganAtZero, EndedBefore}
use Rattle.nvm_file.specs.DoneReading.{payload_at, read_length, statuses_at}
use Rattle.nvm_file.specs.Fields.{◌>>=◌, number_at, offset}
use Rattle.nvm_file.specs.JobReading.{job_at}
use Rattle.nvm_file.specs.TraceFields.{in_trace}

-- the time of an end that wasn't seen: all bits are 1
abbrev pub never : ℕ
never = 18446744073709551615

-- when a job began, which is 1 or later
unfoldable pub began_at : ℕ → List ℕ → Result (ℕ × List ℕ) TraceFileFault
began_at total bytes = do
  began ← in_trace (number_at total 8 bytes)
  if began.0 == 0 then Err (BeganAtZero (offset total bytes)) else Ok began

-- What came back at this time: a status for each command, and the data of a Read by itself, if there is any.
unfoldable pub ending_at : Scope → Body → ℕ → List ℕ → Result (Ending × List ℕ) RecordFault
ending_at scope body time bytes = do
  statuses ← statuses_at body scope.total bytes
  payload ← payload_at scope.total (read_length scope.geometry.block_size (operation_of_body scope.geometry body)) statuses.1
  Ok (record { time = time; statuses = statuses.0; payload = payload.0 }, payload.1)

-- an end that was seen
unfoldable pub seen_at : Scope → Body → ℕ → List ℕ → Result (Option Ending × List ℕ) TraceFileFault
seen_at scope body time bytes = do
  ending ← in_trace (ending_at scope body time bytes)
  Ok (Some ending.0, ending.1)

-- what the time of the end says, which stands at `at`, of a job that began then
abbrev pub ended_by : Scope → Body → ℕ → ℕ → List ℕ → List ℕ → Result (Option Ending × List ℕ) TraceFileFault
ended_by scope body began time at bytes =
    if time == never then Ok (None, bytes) else
    if nat_lt time began then Err (EndedBefore (offset scope.total at)) else seen_at scope body time bytes

-- how a job ended that began then
unfoldable pub ended_at : Scope → Body → ℕ → List ℕ → Result (Option Ending × List ℕ) TraceFileFault
ended_at scope body began bytes = do
  time ← in_trace (number_at scope.total 8 bytes)
  ended_by scope body began time.0 bytes time.1

-- a job
unfoldable pub traced_at : Scope → List ℕ → Result (TracedJob × List ℕ) TraceFileFault
traced_at scope bytes = do
  job ← in_trace (job_at scope bytes)
  began ← began_at scope.total job.1
  ended ← ended_at scope job.0.body began.0 began.1
  Ok (record { job = job.0; began = began.0; ended = ended.0 }, ended.1)
