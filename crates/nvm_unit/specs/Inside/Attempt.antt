-- What is answered of a book, and what becomes of it; and what is answered from what a pass keeps.
use Rattle.std.specs.Prelude.{◌≡◌, ◌≢◌, ℕ, Ok, Err, Result, Some, IsSome, length}
use Rattle.nvm_record.specs.Medium.{Medium}
use Rattle.nvm_record.specs.Step.{Operation, data_of}
use Rattle.nvm_store.specs.Answer.{IsAnswer}
use Rattle.nvm_store.specs.Contents.{Contents, Holds}
use Rattle.nvm_unit.specs.declared.replies.LookFault.{LookFault}
use Rattle.nvm_unit.specs.declared.replies.LookFault.TheVariants.{Newer, NoMemory}
use Rattle.nvm_unit.specs.declared.replies.Observed.{Observed}
use Rattle.nvm_unit.specs.declared.snapshot.Snapshot.{Snapshot}
use Rattle.nvm_store.specs.History.{replay_of}
use Rattle.nvm_store.specs.HistoryEntry.{HistoryEntry}
use Rattle.nvm_unit.specs.declared.replies.Changed.{Changed}
use Rattle.nvm_unit.specs.Inside.Book.{Recorded}
use Rattle.nvm_unit.specs.Replies.{AnswersChange, history_after}

abbrev pub Attempts : Changed → ℕ → HistoryEntry → Recorded → Recorded → Type 0
Attempts changed limit entry old new =
    AnswersChange changed (length old.history) limit entry.operation (replay_of old.place.size old.history)
    × (new ≡ record { place = old.place; history = history_after changed old.history entry })

-- What is answered to a look from what a pass keeps, where the unit has n entries now.
abbrev pub AnswersFrom : Result Observed LookFault → ℕ → Snapshot → Operation → Type 0
AnswersFrom (Ok observed) n snapshot op =
    (n ≡ snapshot.entries) × (observed.point ≡ n)
    × (u : Contents) × (snapshot.version ≡ Some u) × ((m : Medium) → Holds u m → IsAnswer op m observed.answer)
AnswersFrom (Err (Newer count)) n snapshot op = (n ≢ snapshot.entries) × (count ≡ n)
AnswersFrom (Err (NoMemory point)) n snapshot op =
    (n ≡ snapshot.entries) × (point ≡ n)
    × ((u : Contents) → snapshot.version ≡ Some u → (m : Medium) → Holds u m → IsSome (data_of op m))
