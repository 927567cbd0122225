-- What a worker did, in a record file (own): each job that it did, with the parts, what was told, and the data of a Read.
use Rattle.std.specs.Prelude.{ℕ, List, [], ◌∷◌, ◌++◌, length, Option, Some, None}
use Rattle.std.specs.List.{flat_map}
use Rattle.byteorder.specs.Endian.{little_bytes}
use Rattle.nvm_record.specs.declared.status.Status.{Status}
use Rattle.nvm_record.specs.declared.status.Statuses.{Statuses}
use Rattle.nvm_record.specs.declared.status.Statuses.TheVariants.{One, Two}
use Rattle.nvm_plan.specs.declared.part.Part.{Part}
use Rattle.nvm_plan.specs.declared.part.PartResult.{PartResult}
use Rattle.nvm_plan.specs.declared.part.PartResult.TheVariants.{Done, Failed, Looked, NoMemory, Full}
use Rattle.nvm_audit.specs.RecordedJob.{RecordedJob}
use Rattle.nvm_file.specs.Counted.{counted}

-- how a part ended
abbrev pub result_byte : PartResult → ℕ
result_byte Done = 1
result_byte Failed = 2
result_byte Looked = 3
result_byte NoMemory = 4
result_byte Full = 5

-- the unit's number, the point, and how it ended
abbrev pub part_bytes : Part → List ℕ
part_bytes part = little_bytes 2 part.unit ++ (little_bytes 4 part.point ++ (result_byte part.result ∷ []))

-- the type, then the code
abbrev pub status_bytes : Status → List ℕ
status_bytes status = status.sct ∷ status.sc ∷ []

-- the status of each command in turn
abbrev pub statuses_bytes : Statuses → List ℕ
statuses_bytes (One s) = status_bytes s
statuses_bytes (Two s t) = status_bytes s ++ status_bytes t

-- a flag, which is 1 where there is data, and the data
abbrev pub payload_bytes : Option (List ℕ) → List ℕ
payload_bytes None = 0 ∷ []
payload_bytes (Some payload) = 1 ∷ payload

-- the job's number, and how many parts there are
abbrev pub done_front : RecordedJob → List ℕ
done_front done = little_bytes 4 done.job ++ little_bytes 2 (length done.parts)

-- then each part, the statuses, and the data
abbrev pub done_bytes : RecordedJob → List ℕ
done_bytes done =
    done_front done ++ (flat_map part_bytes done.parts ++ (statuses_bytes done.statuses ++ payload_bytes done.payload))

-- all that one worker did, in its order
abbrev pub work_bytes : List RecordedJob → List ℕ
work_bytes work = counted done_bytes work
