-- The history that is reported.
use Rattle.std.specs.Prelude.{List, [], ◌∷◌, ◌++◌, ◌-◌, length, take}
use Rattle.nvm_store.specs.ActRef.{lent_operation_of}
use Rattle.nvm_store.specs.HistoryEntry.{HistoryEntry}
use Rattle.nvm_unit.specs.declared.told.Telling.{Telling}
use Rattle.nvm_unit.specs.declared.told.Telling.TheVariants.{Nothing, OneMore, OneLess}

abbrev pub entries_told : Telling → List HistoryEntry
entries_told Nothing = []
entries_told (OneMore before pass job act) =
    before.now.entries ++ record { pass = pass; job = job; operation = lent_operation_of act } ∷ []
entries_told (OneLess before) = take (length before.now.entries - 1) before.now.entries
