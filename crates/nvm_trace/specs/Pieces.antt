-- The pieces of a trace's commands: what a record that explains the trace has as its jobs. NVM Command Set Specification,
-- "Atomic Operation" and "Atomic Boundaries": a write is kept whole up to NAWUN + 1 blocks and within a boundary. Of one that
-- is longer or crosses a boundary the standard keeps each block, and nothing more. A Read or a Compare that succeeded may
-- have found each block at a moment of its own, where the trace says so. One that failed stays whole: a block that made it fail
-- at some moment makes all of it fail then. And a fused pair is never cut: above its limit it is refused.
-- "Dataset Management" and "Atomic Operation" promise nothing of several atomic units together. So a command that writes, of
-- which the reply leaves open what was done, may have been done in any of its units and not in the others: it is in the
-- record once for each unit that it meets.
use Rattle.std.specs.Prelude.{ℕ, ◌+◌, ◌-◌, nat_lt, if◌then◌else◌, length, Bool, true, false, ◌&&◌, ◌||◌, List, [], ◌∷◌, map, Option, Some, None}
use Rattle.std.specs.List.{flat_map, range_with_len}
use Rattle.nvm_record.specs.declared.command.Command.{Command}
use Rattle.nvm_record.specs.declared.op.Op.{Op}
use Rattle.nvm_record.specs.declared.op.Op.TheVariants.{Write, WriteUncorrectable, WriteZeroes, Read, Compare, Dataset}
use Rattle.nvm_record.specs.declared.status.Statuses.{Statuses}
use Rattle.nvm_record.specs.Op.{carries_ranges}
use Rattle.nvm_record.specs.Ranges.{cut_ranges, data_of_ranges, ranges_of}
use Rattle.nvm_geometry.specs.Namespace.{Namespace}
use Rattle.nvm_geometry.specs.Parts.{data_part, piece_in}
use Rattle.nvm_geometry.specs.declared.piece.Piece.{Piece as LbasInUnit}
use Rattle.nvm_plan.specs.declared.job.Body.{Body}
use Rattle.nvm_plan.specs.declared.job.Body.TheVariants.{Single, Pair}
use Rattle.nvm_plan.specs.declared.job.Job.{Job}
use Rattle.nvm_plan.specs.Checks.{crosses_boundary, refusal_of}
use Rattle.nvm_plan.specs.JobPart.{job_units}
use Rattle.nvm_trace.specs.declared.cut.Cut.{Cut}
use Rattle.nvm_trace.specs.declared.cut.Cut.TheVariants.{Whole, Block, InUnit}
use Rattle.nvm_trace.specs.declared.judging.Judging.{Judging}
use Rattle.nvm_trace.specs.declared.judging.Judging.TheVariants.{Standard, Strict}
use Rattle.nvm_trace.specs.declared.reads.Reads.{Reads}
use Rattle.nvm_trace.specs.declared.reads.Reads.TheVariants.{Atomic, Whole as WholeReads, ByBlocks}
use Rattle.nvm_trace.specs.declared.traced_job.Ending.{Ending}
use Rattle.nvm_trace.specs.declared.traced_job.TracedJob.{TracedJob}
use Rattle.nvm_trace.specs.Saying.{is_success, leaves_open}
use Rattle.nvm_trace.specs.TraceView.{TraceView}

-- a write of the range has more than NAWUN + 1 blocks, or crosses a boundary
abbrev pub exceeds_write_limit : Namespace → ℕ → ℕ → Bool
exceeds_write_limit ns slba blocks = nat_lt (ns.nawun + 1) blocks || crosses_boundary ns slba blocks

abbrev pub by_blocks : Reads → Bool
by_blocks Atomic = false
by_blocks WholeReads = false
by_blocks ByBlocks = true

abbrev pub has_succeeded : Option Ending → Bool
has_succeeded None = false
has_succeeded (Some e) = is_success e.statuses

-- which commands are cut into blocks: writes that exceed the limit, and Reads and Compares that may be found block by block
abbrev pub is_block_op : Op → Bool → Bool → Bool
is_block_op Write exceeds found = exceeds
is_block_op WriteUncorrectable exceeds found = exceeds
is_block_op WriteZeroes exceeds found = exceeds
is_block_op Read exceeds found = found
is_block_op Compare exceeds found = found
is_block_op _ exceeds found = false

abbrev pub is_in_blocks : Judging → Namespace → Reads → Option Ending → Command → Bool
is_in_blocks Standard ns reads ended c =
    is_block_op c.op (exceeds_write_limit ns c.slba (c.nlb + 1)) (by_blocks reads && has_succeeded ended)
is_in_blocks Strict ns reads ended c = false

-- which commands change blocks; a Dataset Management without the Deallocate bit meets no unit
abbrev pub is_write : Op → Bool
is_write Write = true
is_write WriteUncorrectable = true
is_write WriteZeroes = true
is_write (Dataset deallocate) = true
is_write _ = false

-- the part in each of these units, where they are several
abbrev pub by_units : List ℕ → List Cut
by_units units = if nat_lt 1 (length units) then map InUnit units else Whole ∷ []

abbrev pub cuts_of_body : Judging → Namespace → Reads → TracedJob → Body → List Cut
cuts_of_body judging ns reads j (Single c) =
    if is_in_blocks judging ns reads j.ended c then map Block (range_with_len 0 (c.nlb + 1)) else
    if is_write c.op && leaves_open ns j then by_units (job_units ns j.job) else Whole ∷ []
cuts_of_body judging ns reads j (Pair c d) = Whole ∷ []

-- A job that a check refuses does nothing, and stays whole.
abbrev pub cuts_by : Option Statuses → Judging → Namespace → Reads → TracedJob → List Cut
cuts_by (Some refusal) judging ns reads j = Whole ∷ []
cuts_by None judging ns reads j = cuts_of_body judging ns reads j j.job.body

-- how a traced job is cut
abbrev pub cuts_of : Judging → Namespace → Reads → TracedJob → List Cut
cuts_of judging ns reads j = cuts_by (refusal_of ns j.job) judging ns reads j

-- a traced job, and what of it one of the record's jobs is
pub record Piece : Type 0 where
  pub whole : TracedJob
  pub cut : Cut

abbrev pub piece : TracedJob → Cut → Piece
piece whole cut = record { whole = whole; cut = cut }

abbrev pub pieces_of : Judging → Namespace → Reads → TracedJob → List Piece
pieces_of judging ns reads j = map (piece j) (cuts_of judging ns reads j)

abbrev pub pieces_in : Judging → Namespace → Reads → List TracedJob → List Piece
pieces_in judging ns reads jobs = flat_map (pieces_of judging ns reads) jobs

-- all pieces, each at the place of its number
abbrev pub pieces : Judging → TraceView → List Piece
pieces judging t = pieces_in judging t.namespace t.reads t.jobs

-- the traced job of each piece
abbrev pub wholes : Judging → TraceView → List TracedJob
wholes judging t = map (λ p. p.whole) (pieces judging t)

-- block k of the command by itself, with its data
abbrev pub block_of : ℕ → Command → ℕ → Command
block_of size c k = record c { slba = c.slba + k; nlb = 0; payload = data_part size k 1 c.payload }

-- the LBAs in the unit: of the command's range, or of the namespace where the command has its ranges as data
abbrev pub lbas_in : Namespace → Command → ℕ → LbasInUnit
lbas_in ns c unit = if carries_ranges c.op then piece_in ns 0 ns.nsze unit else piece_in ns c.slba (c.nlb + 1) unit

-- the command on exactly these LBAs: with its ranges cut to them, in their order and without those of which no block is left, or with
-- their data
abbrev pub command_on : ℕ → Command → LbasInUnit → Command
command_on size c on =
    if carries_ranges c.op
    then record c { payload = data_of_ranges (cut_ranges on.first on.blocks (ranges_of c.payload)) }
    else record c { slba = on.first; nlb = on.blocks - 1; payload = data_part size (on.first - c.slba) on.blocks c.payload }

abbrev pub block_of_body : ℕ → Body → ℕ → Body
block_of_body size (Single c) k = Single (block_of size c k)
block_of_body size (Pair c d) k = Pair c d

-- the command's part in the unit by itself
abbrev pub part_of_body : Namespace → Body → ℕ → Body
part_of_body ns (Single c) unit = Single (command_on ns.block_size c (lbas_in ns c unit))
part_of_body ns (Pair c d) unit = Pair c d

-- the record's job
abbrev pub job_at : Namespace → Job → Cut → Job
job_at ns job Whole = job
job_at ns job (Block k) = record job { body = block_of_body ns.block_size job.body k }
job_at ns job (InUnit unit) = record job { body = part_of_body ns job.body unit }

abbrev pub job_of : Namespace → Piece → Job
job_of ns p = job_at ns p.whole.job p.cut

-- its data, of what came back; none comes of a command that is in the record by units
abbrev pub data_at : ℕ → Cut → Option (List ℕ) → Option (List ℕ)
data_at size Whole bytes = bytes
data_at size (Block k) None = None
data_at size (Block k) (Some bytes) = Some (data_part size k 1 bytes)
data_at size (InUnit unit) bytes = bytes
