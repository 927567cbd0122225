-- What a worker did, in a record file: each job with its parts, its statuses, and the data of a Read.
use Rattle.std.specs.Prelude.{ℕ, ◌*◌, ◌==◌, List, slice_get, if◌then◌else◌, Option, None, Some, Result, Ok}
use Rattle.nvm_record.specs.declared.status.Status.{Status}
use Rattle.nvm_record.specs.declared.status.Statuses.{Statuses}
use Rattle.nvm_record.specs.declared.status.Statuses.TheVariants as statuses
use Rattle.nvm_record.specs.Deeds.{is_read}
use Rattle.nvm_record.specs.Status.{status}
use Rattle.nvm_record.specs.Step.{Operation}
use Rattle.nvm_geometry.specs.Boundaries.{units_of}
use Rattle.nvm_geometry.specs.Namespace.{Namespace}
use Rattle.nvm_plan.specs.declared.job.Body.{Body}
use Rattle.nvm_plan.specs.declared.job.Body.TheVariants.{Single, Pair}
use Rattle.nvm_plan.specs.declared.job.Job.{Job}
use Rattle.nvm_plan.specs.declared.part.Part.{Part}
use Rattle.nvm_plan.specs.declared.part.PartResult.{PartResult}
use Rattle.nvm_plan.specs.declared.part.PartResult.TheVariants.{Done, Failed, Looked, NoMemory, Full}
use Rattle.nvm_plan.specs.JobPart.{ready_operation}
use Rattle.nvm_audit.specs.Recordable.{most_jobs}
use Rattle.nvm_audit.specs.RecordedJob.{RecordedJob}
use Rattle.nvm_file.specs.declared.frame.Frame.{Frame}
use Rattle.nvm_file.specs.declared.record_fault.RecordFault.{RecordFault}
use Rattle.nvm_file.specs.Fields.{◌>>=◌, refused, bytes_at, number_at, number_in, number_below, items_at}

-- how a part ended, by its code
abbrev pub result_of : ℕ → PartResult
result_of code =
    if code == 1 then Done else
    if code == 2 then Failed else
    if code == 3 then Looked else
    if code == 4 then NoMemory else Full

-- a part: its unit, its point, and how it ended
unfoldable pub part_at : Frame → List ℕ → Result (Part × List ℕ) RecordFault
part_at frame bytes = do
  unit ← number_below frame.total 2 (units_of frame.geometry) bytes
  point ← number_at frame.total 4 unit.1
  result ← number_in frame.total 1 1 5 point.1
  Ok (record { unit = unit.0; point = point.0; result = result_of result.0 }, result.1)

-- how many parts there are, and each of them
unfoldable pub parts_at : Frame → List ℕ → Result (List Part × List ℕ) RecordFault
parts_at frame bytes = do
  count ← number_in frame.total 2 0 (units_of frame.geometry) bytes
  items_at (λ _. part_at frame) 0 count.0 count.1

-- a status: its type, then its code
unfoldable pub status_at : ℕ → List ℕ → Result (Status × List ℕ) RecordFault
status_at total bytes = do
  sct ← number_at total 1 bytes
  sc ← number_at total 1 sct.1
  Ok (status sct.0 sc.0, sc.1)

-- the status of a command by itself
unfoldable pub one_status_at : ℕ → List ℕ → Result (Statuses × List ℕ) RecordFault
one_status_at total bytes = do
  only ← status_at total bytes
  Ok (statuses.One only.0, only.1)

-- the two statuses of a pair
unfoldable pub two_statuses_at : ℕ → List ℕ → Result (Statuses × List ℕ) RecordFault
two_statuses_at total bytes = do
  first ← status_at total bytes
  second ← status_at total first.1
  Ok (statuses.Two first.0 second.0, second.1)

-- a status for each command
abbrev pub statuses_at : Body → ℕ → List ℕ → Result (Statuses × List ℕ) RecordFault
statuses_at (Single c) total bytes = one_status_at total bytes
statuses_at (Pair c d) total bytes = two_statuses_at total bytes

-- how many bytes the operation is answered, where it is a Read
abbrev pub read_length : ℕ → Option Operation → Option ℕ
read_length size None = None
read_length size (Some op) = if is_read op.deed then Some (op.blocks * size) else None

-- the bytes that are answered
unfoldable pub answer_at : ℕ → ℕ → List ℕ → Result (Option (List ℕ) × List ℕ) RecordFault
answer_at total count bytes = do
  payload ← bytes_at total count bytes
  Ok (Some payload.0, payload.1)

-- The bytes behind a flag of 1, which stands at `flag`. Only a job that is answered bytes has them.
abbrev pub answer_behind : ℕ → Option ℕ → List ℕ → List ℕ → Result (Option (List ℕ) × List ℕ) RecordFault
answer_behind total None flag bytes = refused total flag
answer_behind total (Some count) flag bytes = answer_at total count bytes

-- the data, if there is any: a flag of 0, or a flag of 1 and then the data
unfoldable pub payload_at : ℕ → Option ℕ → List ℕ → Result (Option (List ℕ) × List ℕ) RecordFault
payload_at total count bytes = do
  flag ← number_in total 1 0 1 bytes
  if flag.0 == 0 then Ok (None, flag.1) else answer_behind total count bytes flag.1

-- how many bytes the job is answered, where it is a Read by itself that no check refuses
unfoldable pub answer_length : Namespace → Job → Option ℕ
answer_length ns job = read_length ns.block_size (ready_operation ns job)

-- what was done of this job, whose number is before it
unfoldable pub done_of : Frame → ℕ → Job → List ℕ → Result (RecordedJob × List ℕ) RecordFault
done_of frame number job bytes = do
  parts ← parts_at frame bytes
  told ← statuses_at job.body frame.total parts.1
  payload ← payload_at frame.total (answer_length frame.geometry job) told.1
  Ok (record { job = number; parts = parts.0; statuses = told.0; payload = payload.0 }, payload.1)

-- what was done of the job of this number, if there is one
abbrev pub done_of_number : Frame → ℕ → Option Job → List ℕ → List ℕ → Result (RecordedJob × List ℕ) RecordFault
done_of_number frame number None at bytes = refused frame.total at
done_of_number frame number (Some job) at bytes = done_of frame number job bytes

-- a job that was done: its number, which is one of these jobs', and what was done
unfoldable pub done_at : Frame → List Job → List ℕ → Result (RecordedJob × List ℕ) RecordFault
done_at frame jobs bytes = do
  number ← number_at frame.total 4 bytes
  done_of_number frame number.0 (slice_get jobs number.0) bytes number.1

-- what a worker did: how many jobs, and each of them
unfoldable pub work_at : Frame → List Job → List ℕ → Result (List RecordedJob × List ℕ) RecordFault
work_at frame jobs bytes = do
  count ← number_in frame.total 4 0 most_jobs bytes
  items_at (λ _. done_at frame jobs) 0 count.0 count.1
