-- Which entries of a unit's history were made by its parts.
use Rattle.std.specs.Prelude.{◌≡◌, ◌↔◌, ℕ, List, length, Bool, IsTrue}
use Rattle.nvm_record.specs.Lists.{IsAt}
use Rattle.nvm_store.specs.HistoryEntry.{HistoryEntry}
use Rattle.nvm_audit.specs.LawfulUnit.{IsClaimed}
use Rattle.nvm_audit.specs.RecordedPart.{RecordedPart}

-- For each entry whether one of the parts made it.
pub record AreClaims (history : List HistoryEntry) (parts : List RecordedPart) (claimed : List Bool) : Type 0 where
  pub whole : length claimed ≡ length history
  pub each : (i : ℕ) (entry : HistoryEntry) (made : Bool) → IsAt history i entry → IsAt claimed i made
      → IsTrue made ↔ IsClaimed parts i entry
