-- By what name a fault is reported (own): that of its case, wherever it is printed.
use Rattle.std.specs.Prelude.{ℕ, List, codes}
use Rattle.nvm_audit.specs.declared.audit_fault.AuditFault.{AuditFault}
use Rattle.nvm_audit.specs.declared.audit_fault.AuditFault.TheVariants.{JobMissing, JobTwice, EntryUnclaimed, EntryWrong, PointPast, PointBack, StatusWrong, DataWrong, NoMemory}

abbrev pub name_of : AuditFault → List ℕ
name_of (JobMissing job) = codes "JobMissing"
name_of (JobTwice job) = codes "JobTwice"
name_of (EntryUnclaimed job spot) = codes "EntryUnclaimed"
name_of (EntryWrong job spot) = codes "EntryWrong"
name_of (PointPast job spot) = codes "PointPast"
name_of (PointBack job spot) = codes "PointBack"
name_of (StatusWrong job spot) = codes "StatusWrong"
name_of (DataWrong job spot) = codes "DataWrong"
name_of NoMemory = codes "NoMemory"
