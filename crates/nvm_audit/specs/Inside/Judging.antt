-- What is found of a part on the blocks at its point.
use Rattle.std.specs.Prelude.{◌≡◌, ℕ, ◌<◌, Bool, IsTrue}
use Rattle.nvm_record.specs.declared.status.Statuses.{Statuses}
use Rattle.nvm_record.specs.Deeds.{IsAct, IsFailedPair}
use Rattle.nvm_record.specs.Medium.{Medium}
use Rattle.nvm_record.specs.Status.{IsSuccess}
use Rattle.nvm_record.specs.Step.{Operation, statuses_of}
use Rattle.nvm_plan.specs.declared.part.PartResult.{PartResult}
use Rattle.nvm_plan.specs.declared.part.PartResult.TheVariants.{Done, Failed, Looked, NoMemory, Full}
use Rattle.nvm_audit.specs.declared.judging.Finding.{Finding}
use Rattle.nvm_audit.specs.declared.judging.Finding.TheVariants.{Right, StatusWrong, DataWrong}
use Rattle.nvm_audit.specs.RecordedPart.{RecordedPart, told_of}

-- A part that ended so, of an act or of a look, may have done so where the step gives these statuses and this was answered. Of one
-- that was done nothing is asked: its entry is judged.
abbrev pub MayEnd : Bool → ℕ → ℕ → Statuses → Statuses → PartResult → Type 0
MayEnd act limit n told given Done = Unit {0}
MayEnd act limit n told given Failed = IsTrue act × (¬ IsSuccess given) × (told ≡ given)
MayEnd act limit n told given Looked = told ≡ given
MayEnd act limit n told given NoMemory = IsTrue act → IsSuccess given × (n < limit)
MayEnd act limit n told given Full = IsSuccess given × (n ≡ limit)

-- The same of a part on the medium at its point, in the words of the lawful record.
abbrev pub EndsRight : ℕ → Operation → Medium → RecordedPart → PartResult → Type 0
EndsRight limit op m p Done = Unit {0}
EndsRight limit op m p Failed = IsFailedPair op m × (told_of p ≡ statuses_of op m)
EndsRight limit op m p Looked = told_of p ≡ statuses_of op m
EndsRight limit op m p NoMemory = IsAct op.deed → IsSuccess (statuses_of op m) × (p.part.point < limit)
EndsRight limit op m p Full = IsSuccess (statuses_of op m) × (p.part.point ≡ limit)

-- The finding is exactly this, where this is asked of the status and that of the data.
abbrev pub IsFound : Finding → Type 0 → Type 0 → Type 0
IsFound Right status payload = status × payload
IsFound StatusWrong status payload = ¬ status
IsFound DataWrong status payload = status × (¬ payload)
