-- Those bytes of a Read's recorded data that are of the blocks of one of its parts.
use Rattle.std.specs.Prelude.{ℕ, ◌+◌, ◌-◌, ◌*◌, nat_le, if◌then◌else◌, List, length, ◌&&◌, Option, Some, None}
use Rattle.nvm_record.specs.Deeds.{is_read}
use Rattle.nvm_record.specs.Step.{Operation}
use Rattle.nvm_geometry.specs.Parts.{data_part}
use Rattle.nvm_plan.specs.declared.job.Body.{Body}
use Rattle.nvm_plan.specs.declared.job.Body.TheVariants.{Single, Pair}

-- the LBA from which a job's command reads
abbrev pub start_of : Body → ℕ
start_of (Single c) = c.slba
start_of (Pair c d) = c.slba

-- the most LBAs of a namespace
abbrev pub most_blocks : ℕ
most_blocks = 65536

-- the bytes of these blocks, if data from block `start` on has them
abbrev pub data_of_blocks : ℕ → ℕ → ℕ → ℕ → List ℕ → Option (List ℕ)
data_of_blocks size start first blocks bytes =
    if nat_le first most_blocks && nat_le blocks most_blocks && nat_le start first && nat_le ((first - start + blocks) * size) (length bytes)
    then Some (data_part size (first - start) blocks bytes) else None

-- the bytes of the part's blocks, if it is the part of a Read, and data is recorded that has them
abbrev pub recorded_data : ℕ → Body → Operation → Option (List ℕ) → Option (List ℕ)
recorded_data size body op None = None
recorded_data size body op (Some bytes) =
    if is_read op.deed then data_of_blocks size (start_of body) op.first op.blocks bytes else None
