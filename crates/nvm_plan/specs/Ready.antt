-- What is known of a job to which no check applies.
use Rattle.std.specs.Prelude.{◌≡◌, ◌+◌, ◌≤◌, Some, None, IsTrue}
use Rattle.nvm_record.specs.Ranges.{ranges_of}
use Rattle.nvm_record.specs.declared.op.Op.{Op}
use Rattle.nvm_record.specs.declared.op.Op.TheVariants.{Write, Read, WriteUncorrectable, Compare, WriteZeroes, Dataset, Other}
use Rattle.nvm_record.specs.declared.op.Fuse.TheVariants.{Normal}
use Rattle.nvm_record.specs.declared.command.Command.{Command}
use Rattle.nvm_geometry.specs.Deallocation.{EndInNamespace}
use Rattle.nvm_geometry.specs.Namespace.{Namespace}
use Rattle.nvm_geometry.specs.Limits.{IsWithinPairLimit}
use Rattle.nvm_plan.specs.declared.job.Body.{Body}
use Rattle.nvm_plan.specs.declared.job.Body.TheVariants.{Single, Pair}
use Rattle.nvm_plan.specs.declared.job.Job.{Job}
use Rattle.nvm_plan.specs.declared.decision.Plan.{Plan}
use Rattle.nvm_plan.specs.declared.decision.Plan.TheVariants.{Refused, Ready}
use Rattle.nvm_plan.specs.Profile.{is_in_profile}
use Rattle.nvm_plan.specs.Checks.{namespace_identifier, refusal_of}

-- The command's range lies in the namespace, or each of its ranges does, if it is a Dataset Management.
abbrev pub LiesInNamespace : Namespace → Op → Command → Type 0
LiesInNamespace ns Write c = c.slba + (c.nlb + 1) ≤ ns.nsze
LiesInNamespace ns Read c = c.slba + (c.nlb + 1) ≤ ns.nsze
LiesInNamespace ns WriteUncorrectable c = c.slba + (c.nlb + 1) ≤ ns.nsze
LiesInNamespace ns Compare c = c.slba + (c.nlb + 1) ≤ ns.nsze
LiesInNamespace ns WriteZeroes c = c.slba + (c.nlb + 1) ≤ ns.nsze
LiesInNamespace ns (Dataset deallocate) c = EndInNamespace ns (ranges_of c.payload)
LiesInNamespace ns (Other opcode) c = c.slba + (c.nlb + 1) ≤ ns.nsze

-- A command of the profile, by itself, that asks for nothing outside the namespace.
pub record IsReadySingle (ns : Namespace) (c : Command) : Type 0 where
  pub op : IsTrue (is_in_profile c.op)
  pub fuse : c.fuse ≡ Normal
  pub nsid : c.nsid ≡ namespace_identifier
  pub range : LiesInNamespace ns c.op c

-- Compare and Write of one range, which lies in the namespace, in one unit and within the limit.
pub record IsReadyPair (ns : Namespace) (c d : Command) : Type 0 where
  pub compare : c.op ≡ Compare
  pub write : d.op ≡ Write
  pub nsid : c.nsid ≡ namespace_identifier
  pub other_nsid : d.nsid ≡ namespace_identifier
  pub slba : d.slba ≡ c.slba
  pub nlb : d.nlb ≡ c.nlb
  pub range : c.slba + (c.nlb + 1) ≤ ns.nsze
  pub limit : IsWithinPairLimit ns c.slba (c.nlb + 1)

abbrev pub IsReadyBody : Namespace → Body → Type 0
IsReadyBody ns (Single c) = IsReadySingle ns c
IsReadyBody ns (Pair c d) = IsReadyPair ns c d

abbrev pub IsReady : Namespace → Job → Type 0
IsReady ns job = IsReadyBody ns job.body

-- The plan of a job: the statuses of the first check that applies, or that none does.
abbrev pub IsPlan : Namespace → Job → Plan → Type 0
IsPlan ns job (Refused statuses) = refusal_of ns job ≡ Some statuses
IsPlan ns job Ready = refusal_of ns job ≡ None

-- The fact holds if the job can be done.
abbrev pub IfReady : Plan → Type 0 → Type 0
IfReady (Refused statuses) fact = Unit {0}
IfReady Ready fact = fact
