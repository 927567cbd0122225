-- At which points of a history the step can be said.
use Rattle.std.specs.Prelude.{ℕ, ◌==◌, ◌&&◌, nat_le, Bool, true, List, [], ◌∷◌, length, take}
use Rattle.nvm_record.specs.declared.status.Status.{Status}
use Rattle.nvm_record.specs.declared.status.Statuses.{Statuses}
use Rattle.nvm_record.specs.declared.status.Statuses.TheVariants.{One, Two}
use Rattle.nvm_record.specs.Medium.{Medium, zero_medium}
use Rattle.nvm_record.specs.Status.{successful_completion}
use Rattle.nvm_record.specs.Step.{medium_after, statuses_of}
use Rattle.nvm_store.specs.HistoryEntry.{HistoryEntry}

abbrev pub is_successful : Status → Bool
is_successful s = s.sct == successful_completion.sct && s.sc == successful_completion.sc

-- each command ended with success
abbrev pub is_success : Statuses → Bool
is_success (One s) = is_successful s
is_success (Two s t) = is_successful s && is_successful t

-- Each of these entries succeeds after those before it, where `m` was before.
abbrev pub all_succeed : ℕ → Medium → List HistoryEntry → Bool
all_succeed size m [] = true
all_succeed size m (entry ∷ entries) =
    is_success (statuses_of entry.operation m) && all_succeed size (medium_after size entry.operation m) entries

-- The history has this point, and each entry before it succeeds.
unfoldable pub is_reached : ℕ → List HistoryEntry → ℕ → Bool
is_reached size history at = nat_le at (length history) && all_succeed size (zero_medium size) (take at history)
