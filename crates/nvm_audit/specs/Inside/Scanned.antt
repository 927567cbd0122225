-- The parts of a unit while they are looked at in their order.
use Rattle.std.specs.Prelude.{◌≡◌, ℕ, ◌<◌, ◌≤◌, List, [], ◌∷◌, length, take, drop}
use Rattle.nvm_record.specs.Lists.{IsAt}
use Rattle.nvm_audit.specs.Inside.Audited.{Leads}
use Rattle.nvm_audit.specs.PointOrder.{least_after}
use Rattle.nvm_audit.specs.Recordable.{most_workers}
use Rattle.nvm_audit.specs.RecordedPart.{RecordedPart}
use Rattle.nvm_audit.specs.UnitChecks.{UnitCheck, point_there, point_on, status_right, payload_right, PassesInUnit, part_checks}
use Rattle.nvm_audit.specs.UnitView.{UnitView}

-- the checks of a part with these before it
abbrev pub checks_of_part : List RecordedPart → RecordedPart → List UnitCheck
checks_of_part before p = point_there p ∷ point_on before p ∷ status_right p ∷ payload_right p ∷ []

-- It is the lowest point that the worker may have after these parts: none of its own asks for more, and where it isn't 0 one
-- asks for it.
pub record IsLeastOf (before : List RecordedPart) (worker n : ℕ) : Type 0 where
  pub above : (k : ℕ) (earlier : RecordedPart) → IsAt before k earlier → earlier.worker ≡ worker
      → least_after earlier.part earlier.part.result ≤ n
  pub one : 0 < n → (k : ℕ) × (earlier : RecordedPart) × IsAt before k earlier × (earlier.worker ≡ worker)
      × (least_after earlier.part earlier.part.result ≡ n)

-- The first k parts were found right, and these are the lowest points that the workers may have.
pub record IsScannedTo (u : UnitView) (k : ℕ) (least : List ℕ) : Type 0 where
  pub workers : length least ≡ most_workers
  pub each : (worker n : ℕ) → IsAt least worker n → IsLeastOf (take k u.parts) worker n
  pub leads : Leads (PassesInUnit u) (part_checks (take k u.parts) (drop k u.parts)) (part_checks [] u.parts)
