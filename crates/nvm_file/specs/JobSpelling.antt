-- A job in a record file (own): the number of its host, a byte that says whether it is a command by itself or a fused pair, and
-- the commands, each with its data behind its submission entry.
use Rattle.std.specs.Prelude.{ℕ, List, [], ◌∷◌, ◌++◌}
use Rattle.byteorder.specs.Endian.{little_bytes}
use Rattle.nvm_record.specs.Entry.{spelling_of}
use Rattle.nvm_plan.specs.declared.job.Body.{Body}
use Rattle.nvm_plan.specs.declared.job.Body.TheVariants.{Single, Pair}
use Rattle.nvm_plan.specs.declared.job.Job.{Job}

-- the kind, 0 for a command by itself and 1 for a pair
abbrev pub body_kind : Body → ℕ
body_kind (Single c) = 0
body_kind (Pair c d) = 1

-- the commands in their order
abbrev pub commands_bytes : Body → List ℕ
commands_bytes (Single c) = spelling_of c
commands_bytes (Pair c d) = spelling_of c ++ spelling_of d

-- what stands before the commands
abbrev pub job_front : Job → List ℕ
job_front job = little_bytes 2 job.host ++ (body_kind job.body ∷ [])

abbrev pub job_bytes : Job → List ℕ
job_bytes job = job_front job ++ commands_bytes job.body
