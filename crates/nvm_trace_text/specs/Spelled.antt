-- Which traces a text can say (own). Each `Trace` is one, by its type and by those of its numbers, but for one time: no text says an end
-- at the highest of 64 bits, which in a file stands for an end that wasn't seen.
use Rattle.std.specs.Prelude.{ℕ, ◌<◌, ◌^◌, All, IfSome, List}
use Rattle.nvm_geometry.specs.Namespace.{Namespace}
use Rattle.nvm_record.specs.Entry.{HasFieldsInRange}
use Rattle.nvm_record.specs.Op.{opcode_of}
use Rattle.nvm_record.specs.declared.command.Command.{Command}
use Rattle.nvm_record.specs.declared.status.Status.{Status}
use Rattle.nvm_record.specs.declared.status.Statuses.{Statuses}
use Rattle.nvm_record.specs.declared.status.Statuses.TheVariants.{One, Two}
use Rattle.nvm_plan.specs.declared.job.Body.{Body}
use Rattle.nvm_plan.specs.declared.job.Body.TheVariants.{Single, Pair}
use Rattle.nvm_trace.specs.TraceView.{TraceView}
use Rattle.nvm_trace.specs.declared.traced_job.Ending.{Ending}
use Rattle.nvm_trace.specs.declared.traced_job.TracedJob.{TracedJob}

-- The numbers of the namespace fit 8, 4 and 2 bytes.
pub record NamespaceFits (ns : Namespace) : Type 0 where
  pub nsze : ns.nsze < 2 ^ 64
  pub block_size : ns.block_size < 2 ^ 32
  pub nabsn : ns.nabsn < 2 ^ 16
  pub nabo : ns.nabo < 2 ^ 16
  pub nawun : ns.nawun < 2 ^ 16
  pub nacwu : ns.nacwu < 2 ^ 16

abbrev pub AreBytes : List ℕ → Type 0
AreBytes bytes = All (λ b. b < 256) bytes

-- The numbers of the command fit its submission entry, and its data is bytes.
pub record CommandFits (c : Command) : Type 0 where
  pub fields : HasFieldsInRange c
  pub opcode : opcode_of c.op < 256
  pub bytes : AreBytes c.payload

abbrev pub BodyFits : Body → Type 0
BodyFits (Single c) = CommandFits c
BodyFits (Pair c d) = CommandFits c × CommandFits d

-- The type fits a byte, and so does the code.
abbrev pub StatusFits : Status → Type 0
StatusFits status = (status.sct < 256) × (status.sc < 256)

abbrev pub StatusesFit : Statuses → Type 0
StatusesFit (One s) = StatusFits s
StatusesFit (Two s t) = StatusFits s × StatusFits t

-- What came back fits.
pub record EndingFits (e : Ending) : Type 0 where
  pub time : e.time < 2 ^ 64
  pub statuses : StatusesFit e.statuses
  pub payload : IfSome e.payload AreBytes

pub record JobFits (j : TracedJob) : Type 0 where
  pub body : BodyFits j.job.body
  pub began : j.began < 2 ^ 64
  pub ended : IfSome j.ended EndingFits

-- Each number of the trace is one that its type has.
pub record HasNumbersInRange (t : TraceView) : Type 0 where
  pub namespace : NamespaceFits t.namespace
  pub first : t.first < 2 ^ 64
  pub jobs : All JobFits t.jobs

-- The job didn't end at 2 ^ 64 - 1, if it ended.
abbrev pub EndsBeforeLast : TracedJob → Type 0
EndsBeforeLast j = IfSome j.ended (λ e. e.time < 18446744073709551615)

-- No job of the trace ended at 2 ^ 64 - 1.
abbrev pub AllEndBeforeLast : TraceView → Type 0
AllEndBeforeLast t = All EndsBeforeLast t.jobs
