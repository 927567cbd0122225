-- The parts that a record shows, grouped by the units that they name.
use Rattle.std.specs.Prelude.{◌≡◌, ℕ, ◌<◌, List, length}
use Rattle.nvm_record.specs.Lists.{IsAt}
use Rattle.nvm_plan.specs.declared.part.Part.{Part}
use Rattle.nvm_audit.specs.Inside.Gathered.{naming}
use Rattle.nvm_audit.specs.RecordedJob.{RecordedJob}
use Rattle.nvm_audit.specs.RecordedPart.{RecordedPart}

-- There is a group for each unit below `units`: those of these parts that name the unit, in their order.
pub record AreGrouped (units : ℕ) (parts : List RecordedPart) (groups : List (List RecordedPart)) : Type 0 where
  pub long : length groups ≡ units
  pub each : (unit : ℕ) → unit < units → IsAt groups unit (naming unit parts)

-- Each of the job's parts names a unit below `units`.
abbrev pub HasUnits : ℕ → RecordedJob → Type 0
HasUnits units d = (i : ℕ) (part : Part) → IsAt d.parts i part → part.unit < units

-- Each part of what a worker did names a unit below `units`.
abbrev pub HaveUnits : ℕ → List RecordedJob → Type 0
HaveUnits units work = (k : ℕ) (d : RecordedJob) → IsAt work k d → HasUnits units d

-- Each part of what all workers did names a unit below `units`.
abbrev pub AllHaveUnits : ℕ → List (List RecordedJob) → Type 0
AllHaveUnits units done = (worker : ℕ) (work : List RecordedJob) → IsAt done worker work → HaveUnits units work
