-- Whether a fault names a unit (own): one that is looked for in the units, after all that is looked for in the jobs.
use Rattle.std.specs.Prelude.{Bool, true, false, Some, None}
use Rattle.nvm_audit.specs.declared.audit_fault.AuditFault.{AuditFault}
use Rattle.nvm_audit.specs.declared.audit_fault.AuditFault.TheVariants.{JobMissing, JobTwice, EntryUnclaimed, EntryWrong, PointPast, PointBack, StatusWrong, DataWrong, NoMemory}

-- the fault names a unit and a place in it
abbrev pub names_unit : AuditFault → Bool
names_unit (JobMissing job) = false
names_unit (JobTwice job) = false
names_unit (EntryUnclaimed job at) = true
names_unit (EntryWrong job at) = true
names_unit (PointPast job at) = true
names_unit (PointBack job at) = true
names_unit (StatusWrong job None) = false
names_unit (StatusWrong job (Some at)) = true
names_unit (DataWrong job at) = true
names_unit NoMemory = false
