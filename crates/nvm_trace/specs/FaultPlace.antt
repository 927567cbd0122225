-- How a witness's fault is reported (own): its name, its job and its place. An unlawful record's fault is reported as an audit's is.
use Rattle.std.specs.Prelude.{ℕ, List, Option, Some, None, codes}
use Rattle.nvm_audit.specs.FaultName as audit_name
use Rattle.nvm_audit.specs.FaultPlace as audit_place
use Rattle.nvm_audit.specs.declared.audit_fault.Spot.{Spot}
use Rattle.nvm_trace.specs.declared.witness_fault.WitnessFault.{WitnessFault}
use Rattle.nvm_trace.specs.declared.witness_fault.WitnessFault.TheVariants.{NamespaceDiffers, JobDiffers, NoPreparation, Unlawful, ReplyDiffers, TimeBack, NoMemory}

abbrev pub name_of : WitnessFault → List ℕ
name_of NamespaceDiffers = codes "NamespaceDiffers"
name_of (JobDiffers job) = codes "JobDiffers"
name_of (NoPreparation job) = codes "NoPreparation"
name_of (Unlawful fault) = audit_name.name_of fault
name_of (ReplyDiffers job) = codes "ReplyDiffers"
name_of (TimeBack job spot) = codes "TimeBack"
name_of NoMemory = codes "NoMemory"

-- the number of the job
abbrev pub job_of : WitnessFault → Option ℕ
job_of NamespaceDiffers = None
job_of (JobDiffers job) = Some job
job_of (NoPreparation job) = Some job
job_of (Unlawful fault) = audit_place.job_of fault
job_of (ReplyDiffers job) = Some job
job_of (TimeBack job spot) = Some job
job_of NoMemory = None

-- the unit, and the place or point in it
abbrev pub spot_of : WitnessFault → Option Spot
spot_of NamespaceDiffers = None
spot_of (JobDiffers job) = None
spot_of (NoPreparation job) = None
spot_of (Unlawful fault) = audit_place.spot_of fault
spot_of (ReplyDiffers job) = None
spot_of (TimeBack job spot) = Some spot
spot_of NoMemory = None
