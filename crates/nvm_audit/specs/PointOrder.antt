-- The order of a worker's parts in one unit (own).
use Rattle.std.specs.Prelude.{◌≡◌, ℕ, ◌+◌, ◌<◌, ◌≤◌, List}
use Rattle.nvm_record.specs.Lists.{IsAt}
use Rattle.nvm_plan.specs.declared.part.Part.{Part}
use Rattle.nvm_plan.specs.declared.part.PartResult.{PartResult}
use Rattle.nvm_plan.specs.declared.part.PartResult.TheVariants.{Done, Failed, Looked, NoMemory, Full}
use Rattle.nvm_audit.specs.RecordedPart.{RecordedPart}

-- the lowest point that its worker's next part in the unit may have: past the entry, where one was made
abbrev pub least_after : Part → PartResult → ℕ
least_after part Done = part.point + 1
least_after part Failed = part.point
least_after part Looked = part.point
least_after part NoMemory = part.point
least_after part Full = part.point

-- The later part's point isn't before what the earlier part of the same worker leaves.
abbrev pub IsNotBefore : RecordedPart → RecordedPart → Type 0
IsNotBefore earlier later = later.worker ≡ earlier.worker → least_after earlier.part earlier.part.result ≤ later.part.point

-- In these parts of one unit, which are in the order of each worker, no point of a worker is below one that it had
-- before, nor at or below the place of an entry that it had made before.
abbrev pub PointsNeverGoBack : List RecordedPart → Type 0
PointsNeverGoBack parts =
    (i j : ℕ) (earlier later : RecordedPart) → IsAt parts i earlier → IsAt parts j later → i < j
    → IsNotBefore earlier later
