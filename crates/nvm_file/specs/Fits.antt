-- The numbers of a record fit the fields that its file has for them (own). What holds the other numbers of a record within their
-- fields, as a limit or a first LBA, already stands in what a record file can hold. Each `Record` fits, by the types of its
-- numbers.
use Rattle.std.specs.Prelude.{◌^◌, ◌<◌, All}
use Rattle.nvm_record.specs.declared.status.Status.{Status}
use Rattle.nvm_record.specs.declared.status.Statuses.{Statuses}
use Rattle.nvm_record.specs.declared.status.Statuses.TheVariants.{One, Two}
use Rattle.nvm_record.specs.Entry.{HasFieldsInRange}
use Rattle.nvm_geometry.specs.Namespace.{Namespace}
use Rattle.nvm_plan.specs.declared.job.Body.{Body}
use Rattle.nvm_plan.specs.declared.job.Body.TheVariants.{Single, Pair}
use Rattle.nvm_plan.specs.declared.job.Job.{Job}
use Rattle.nvm_plan.specs.declared.part.Part.{Part}
use Rattle.nvm_audit.specs.RecordedJob.{RecordedJob}
use Rattle.nvm_audit.specs.RecordView.{RecordView}

-- The numbers of the namespace fit 8, 4 and 2 bytes.
pub record NumbersFit (ns : Namespace) : Type 0 where
  pub nsze : ns.nsze < 2 ^ 64
  pub block_size : ns.block_size < 2 ^ 32
  pub nabsn : ns.nabsn < 2 ^ 16
  pub nabo : ns.nabo < 2 ^ 16
  pub nawun : ns.nawun < 2 ^ 16
  pub nacwu : ns.nacwu < 2 ^ 16

-- The numbers of each command fit its submission entry.
abbrev pub BodyFits : Body → Type 0
BodyFits (Single c) = HasFieldsInRange c
BodyFits (Pair c d) = HasFieldsInRange c × HasFieldsInRange d

abbrev pub JobFits : Job → Type 0
JobFits job = BodyFits job.body

-- The point fits 4 bytes.
abbrev pub PartFits : Part → Type 0
PartFits part = part.point < 2 ^ 32

-- The type fits a byte, and so does the code.
abbrev pub StatusFits : Status → Type 0
StatusFits status = (status.sct < 2 ^ 8) × (status.sc < 2 ^ 8)

abbrev pub StatusesFit : Statuses → Type 0
StatusesFit (One s) = StatusFits s
StatusesFit (Two s t) = StatusFits s × StatusFits t

-- The numbers of what is recorded of a done job fit.
pub record DoneFits (done : RecordedJob) : Type 0 where
  pub parts : All PartFits done.parts
  pub statuses : StatusesFit done.statuses

-- Each number of the record fits its field.
pub record FitsItsFields (r : RecordView) : Type 0 where
  pub namespace : NumbersFit r.namespace
  pub jobs : All JobFits r.jobs
  pub done : All (All DoneFits) r.done
