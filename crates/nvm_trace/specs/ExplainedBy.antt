-- When a record explains a trace: the device, seen from outside, behaved as one block store with one thread could have in each
-- atomic unit, in real time. So each atomic unit is linearizable (own). How the record came about isn't asked. The record has the
-- pieces of the trace's commands (specs/Pieces.antt). Each part of a piece in a unit is one step, however many blocks it has, and
-- a piece's parts are done in the order of its units, up to the first that fails. A command of which the reply leaves open what was
-- done has a piece for each of its units, and any of these may have been done. It isn't the other way round: units that are
-- linearizable one by one may want more workers than a record has.
use Rattle.std.specs.Prelude.{◌≡◌, ℕ, ◌≤◌, List, length}
use Rattle.nvm_record.specs.declared.op.Op.TheVariants.{Write}
use Rattle.nvm_record.specs.Lists.{IsAt}
use Rattle.nvm_plan.specs.declared.job.Body.{Body}
use Rattle.nvm_plan.specs.declared.job.Body.TheVariants.{Single, Pair}
use Rattle.nvm_plan.specs.declared.job.Job.{Job}
use Rattle.nvm_audit.specs.LawfulRecord.{IsLawfulRecord}
use Rattle.nvm_audit.specs.RecordedJob.{RecordedJob}
use Rattle.nvm_audit.specs.RecordView.{RecordView}
use Rattle.nvm_trace.specs.declared.start.Start.TheVariants.{Unknown}
use Rattle.nvm_trace.specs.declared.judging.Judging.{Judging}
use Rattle.nvm_trace.specs.Agreement.{AgreesWith}
use Rattle.nvm_trace.specs.Pieces.{Piece, pieces, wholes, job_of}
use Rattle.nvm_trace.specs.Steps.{steps_of}
use Rattle.nvm_trace.specs.Timely.{IsTimely}
use Rattle.nvm_trace.specs.TraceView.{TraceView}

abbrev pub IsOneBlockWrite : Body → Type 0
IsOneBlockWrite (Single c) = (c.op ≡ Write) × (c.nlb ≡ 0)
IsOneBlockWrite (Pair c d) = ⊥

-- The record has the trace's piece of this number at this number.
abbrev pub HasJob : Judging → TraceView → RecordView → ℕ → Type 0
HasJob judging t r number = (p : Piece) → IsAt (pieces judging t) number p → IsAt r.jobs number (job_of t.namespace p)

-- The record's job of this number, if it isn't the trace's, is a preparation: a Write of one block for what the block had
-- before the trace. There are preparations only where that wasn't known.
abbrev pub IsPrepared : Judging → TraceView → RecordView → ℕ → Type 0
IsPrepared judging t r number =
    (job : Job) → length (pieces judging t) ≤ number → IsAt r.jobs number job → (t.start ≡ Unknown) × IsOneBlockWrite job.body

-- What the record shows of the piece of this number agrees with the reply to its command.
abbrev pub HasItsReply : Judging → TraceView → RecordView → ℕ → Type 0
HasItsReply judging t r number =
    (worker k : ℕ) (work : List RecordedJob) (d : RecordedJob) (p : Piece) → IsAt r.done worker work → IsAt work k d
    → d.job ≡ number → IsAt (pieces judging t) number p → AgreesWith t.namespace p d

pub record IsExplainedBy (judging : Judging) (t : TraceView) (r : RecordView) : Type 0 where
  -- It is of the trace's namespace, and has the pieces of the trace's jobs, and preparations.
  pub namespace : r.namespace ≡ t.namespace
  pub jobs : (number : ℕ) → HasJob judging t r number
  pub prepared : (number : ℕ) → IsPrepared judging t r number
  -- In each unit the jobs were done one after the other.
  pub lawful : IsLawfulRecord r
  -- Each job was answered so.
  pub replies : (number : ℕ) → HasItsReply judging t r number
  -- The order in each unit keeps real time: of two steps the later one's command hadn't ended when the earlier one's began.
  pub timely : IsTimely (steps_of (wholes judging t) r.done)
