-- The replay of a lawful history has its unit's block size.
use Rattle.std.proofs.Common.{◌≡◌, ℕ, ◌*◌, List, [], ◌∷◌, ◌++◌, length, take, drop}
use Rattle.std.proofs.lemmas.List.{take-append-drop, append_assoc}
use Rattle.nvm_record.specs.Medium.{Medium, HasBlockSize, zero_medium}
use Rattle.nvm_record.specs.Step.{HasData, Operation, medium_after}
use Rattle.nvm_store.specs.declared.place.Place.{Place}
use Rattle.nvm_store.specs.HistoryEntry.{HistoryEntry}
use Rattle.nvm_store.specs.History.{replay_from, replay_of, IsLawfulHistory}
use Rattle.nvm_store.specs.Point.{point}
use Rattle.nvm_store.proofs.AtLemmas.{at_end}
use Rattle.nvm_store.proofs.Replays.{lawful_beginning}

-- The step keeps block sizes.
abbrev pub StepsKeepSizes : Type 0
StepsKeepSizes =
    (size : ℕ) (op : Operation) (m : Medium) → HasData (op.blocks * size) op.deed
    → HasBlockSize size m → HasBlockSize size (medium_after size op m)

-- Entries after others keep the size of a medium.
sized_from : StepsKeepSizes → (place : Place) (m : Medium) (before entries : List HistoryEntry)
    → IsLawfulHistory place (before ++ entries) → HasBlockSize place.size m → HasBlockSize place.size (replay_from place.size m entries)
sized_from law place m before [] lawful sized = sized
sized_from law place m before (entry ∷ entries) lawful sized =
    let follows = lawful (length before) entry (at_end before entries entry) in
    let joined : (before ++ entry ∷ []) ++ entries ≡ before ++ entry ∷ entries = append_assoc before (entry ∷ []) entries in
    sized_from law place (medium_after place.size entry.operation m) (before ++ entry ∷ []) entries (rw joined lawful)
    (law place.size entry.operation m follows.covered.payload sized)

pub replay_sized : StepsKeepSizes → (place : Place) (history : List HistoryEntry) → HasBlockSize place.size (zero_medium place.size)
    → IsLawfulHistory place history → HasBlockSize place.size (replay_of place.size history)
replay_sized law place history begun lawful = sized_from law place (zero_medium place.size) [] history lawful begun

pub point_sized : StepsKeepSizes → (place : Place) (history : List HistoryEntry) (n : ℕ) → HasBlockSize place.size (zero_medium place.size)
    → IsLawfulHistory place history → HasBlockSize place.size (point place.size history n)
point_sized law place history n begun lawful =
    replay_sized law place (take n history) begun
    (lawful_beginning place (take n history) (drop n history) (rw (take-append-drop n history) lawful))
