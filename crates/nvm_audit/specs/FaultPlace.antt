-- Where in a record a fault is (own): of which job, and where in a unit, if it is in one. Want of memory is nowhere.
use Rattle.std.specs.Prelude.{ℕ, Option, Some, None}
use Rattle.nvm_audit.specs.declared.audit_fault.AuditFault.{AuditFault}
use Rattle.nvm_audit.specs.declared.audit_fault.AuditFault.TheVariants.{JobMissing, JobTwice, EntryUnclaimed, EntryWrong, PointPast, PointBack, StatusWrong, DataWrong, NoMemory}
use Rattle.nvm_audit.specs.declared.audit_fault.Spot.{Spot}

-- the number of the job
abbrev pub job_of : AuditFault → Option ℕ
job_of (JobMissing job) = Some job
job_of (JobTwice job) = Some job
job_of (EntryUnclaimed job spot) = Some job
job_of (EntryWrong job spot) = Some job
job_of (PointPast job spot) = Some job
job_of (PointBack job spot) = Some job
job_of (StatusWrong job spot) = Some job
job_of (DataWrong job spot) = Some job
job_of NoMemory = None

-- the unit, and the place or point in it
abbrev pub spot_of : AuditFault → Option Spot
spot_of (JobMissing job) = None
spot_of (JobTwice job) = None
spot_of (EntryUnclaimed job spot) = Some spot
spot_of (EntryWrong job spot) = Some spot
spot_of (PointPast job spot) = Some spot
spot_of (PointBack job spot) = Some spot
spot_of (StatusWrong job spot) = spot
spot_of (DataWrong job spot) = Some spot
spot_of NoMemory = None
