-- What a call answers, and what its pass has seen and done then. The call's deciding step finds a history, of
-- as many entries as the answer's point: the answer is that of the step there.
use Rattle.std.specs.Prelude.{◌≡◌, ◌⊎◌, ℕ, ◌/◌, ◌%◌, ◌<◌, List, [], ◌∷◌, ◌++◌, length, if◌then◌else◌, Bool, true, false, Ok, Err, Result, IsSome}
use Rattle.nvm_record.specs.Medium.{Medium}
use Rattle.nvm_record.specs.Status.{IsSuccess}
use Rattle.nvm_record.specs.Step.{Operation, statuses_of, data_of}
use Rattle.nvm_store.specs.Answer.{IsAnswer, IsAnswerInto}
use Rattle.nvm_store.specs.History.{replay_of}
use Rattle.nvm_store.specs.HistoryEntry.{HistoryEntry}
use Rattle.nvm_record.specs.Deeds.{IsFailedPair}
use Rattle.nvm_unit.specs.declared.bounds.Bounds.{Bounds}
use Rattle.nvm_unit.specs.declared.views.PassView.{PassView}
use Rattle.nvm_unit.specs.declared.replies.Changed.{Changed}
use Rattle.nvm_unit.specs.declared.replies.Changed.TheVariants.{Done, Failed, NoMemory, Full}
use Rattle.nvm_unit.specs.declared.replies.Observed.{Observed}
use Rattle.nvm_unit.specs.declared.replies.ObservedStatus.{ObservedStatus}
use Rattle.nvm_unit.specs.declared.replies.ObserveFault.{ObserveFault}
use Rattle.nvm_unit.specs.declared.replies.ObserveFault.TheVariants as observe_fault
use Rattle.nvm_unit.specs.declared.replies.LookFault.{LookFault}
use Rattle.nvm_unit.specs.declared.replies.LookFault.TheVariants as look_fault
use Rattle.nvm_unit.specs.declared.replies.Busy.{Busy}
use Rattle.nvm_unit.specs.Views.{looked, shown, added}
use Rattle.nvm_unit.specs.Passes.{Finds, IsNotAbove}

-- the medium to which the history of a unit leads
abbrev pub medium_at : Bounds → List HistoryEntry → Medium
medium_at b history = replay_of b.place.size history

-- the entry of a job's operation by this pass
abbrev pub entry_of_job : PassView → ℕ → Operation → HistoryEntry
entry_of_job p job op = record { pass = p.number; job = job; operation = op }

-- whether the answer says that the act was done
abbrev pub is_done : Changed → Bool
is_done (Done point) = true
is_done (Failed point statuses) = false
is_done (NoMemory point) = false
is_done (Full point) = false

-- the point on which the answer to a change rests
abbrev pub point_of : Changed → ℕ
point_of (Done point) = point
point_of (Failed point statuses) = point
point_of (NoMemory point) = point
point_of (Full point) = point

-- What may be answered to a change, where a history of `entries` entries leads to this medium.
abbrev pub AnswersChange : Changed → ℕ → ℕ → Operation → Medium → Type 0
AnswersChange (Done point) entries limit op m =
    (point ≡ entries) × (entries < limit) × IsSuccess (statuses_of op m)
AnswersChange (Failed point statuses) entries limit op m =
    (point ≡ entries) × IsFailedPair op m × (statuses ≡ statuses_of op m)
AnswersChange (NoMemory point) entries limit op m = (point ≡ entries) × (entries < limit) × (¬ IsFailedPair op m)
AnswersChange (Full point) entries limit op m = (point ≡ entries) × (entries ≡ limit) × (¬ IsFailedPair op m)

-- The history after a change that was answered so: `Done` alone adds the entry.
abbrev pub history_after : Changed → List HistoryEntry → HistoryEntry → List HistoryEntry
history_after changed history entry = if is_done changed then history ++ entry ∷ [] else history

-- the pass after it
abbrev pub pass_after : Changed → List HistoryEntry → HistoryEntry → PassView → PassView
pass_after changed history entry p =
    if is_done changed then added (length history) history entry p else shown true (length history) history p

-- What `change` answers, and the pass after it.
abbrev pub Makes : Changed → PassView → ℕ → Operation → PassView → Type 0
Makes changed p job op q =
    (history : List HistoryEntry) × Finds (length history) p history
    × AnswersChange changed (length history) p.bounds.limit op (medium_at p.bounds history)
    × (q ≡ pass_after changed history (entry_of_job p job op) p)

-- What may be answered to a look. Only the data of a Read wants memory.
abbrev pub AnswersLook : Result Observed ObserveFault → ℕ → Operation → Medium → Type 0
AnswersLook (Ok observed) entries op m = (observed.point ≡ entries) × IsAnswer op m observed.answer
AnswersLook (Err (observe_fault.NoMemory point)) entries op m = (point ≡ entries) × IsSome (data_of op m)

-- What `observe` answers, and the pass after it.
abbrev pub Observes : Result Observed ObserveFault → PassView → Operation → PassView → Type 0
Observes answer p op q =
    (history : List HistoryEntry) × Finds (length history) p history
    × AnswersLook answer (length history) op (medium_at p.bounds history)
    × (q ≡ shown true (length history) history p)

-- What `poll_observe_into` answers, the buffer before and after it, and the pass after it.
abbrev pub ObservesInto : ObservedStatus → List ℕ → List ℕ → PassView → Operation → PassView → Type 0
ObservesInto observed old new p op q =
    (history : List HistoryEntry) × Finds (length history) p history
    × (observed.point ≡ length history) × IsAnswerInto op (medium_at p.bounds history) observed.status old new
    × (q ≡ shown true (length history) history p)

-- The pass was brought to the history that a step found, with no mark.
abbrev pub IsBroughtUp : PassView → PassView → Type 0
IsBroughtUp p q = (history : List HistoryEntry) × Finds (length history) p history × (q ≡ shown false (length history) history p)

-- Two passes were brought to one history.
abbrev pub Meet : PassView → PassView → PassView → PassView → Type 0
Meet p o q r =
    (history : List HistoryEntry) × Finds (length history) p history × Finds (length history) o history
    × (q ≡ shown false (length history) history p) × (r ≡ shown false (length history) history o)

-- A step of the pass found n entries, which is its new mark. It showed no entry: the pass has seen and done what it had.
abbrev pub Learns : ℕ → PassView → PassView → Type 0
Learns n p q = IsNotAbove n p × (q ≡ looked true n p)

-- A step of the pass found n entries and didn't take the unit. It left no mark, and the pass has seen and done what it had.
abbrev pub Waits : PassView → PassView → Type 0
Waits p q = (n : ℕ) × IsNotAbove n p × (q ≡ looked false n p)

-- What `look` answers, and the pass after it. It answers where the history has exactly the entries that the pass has
-- seen. `keeps` is whether the pass keeps its version: one that does is refused memory for a Read's data alone.
abbrev pub Looks : Result Observed LookFault → Bool → PassView → Operation → PassView → Type 0
Looks (Ok observed) keeps p op q = (observed.point ≡ length p.seen) × Observes (Ok observed) p op q
Looks (Err (look_fault.Newer count)) keeps p op q = (length p.seen < count) × Learns count p q
Looks (Err (look_fault.NoMemory point)) keeps p op q =
    (point ≡ length p.seen) × Learns point p q × (keeps ≡ true → IsSome (data_of op (medium_at p.bounds p.seen)))

-- What `try_change` answers, and the pass after it. The word that kept it from the unit is odd, as that of a held unit
-- is, or its half is more than what the pass had seen.
abbrev pub MakesOrLearns : Result Changed Busy → PassView → ℕ → Operation → PassView → Type 0
MakesOrLearns (Ok changed) p job op q = Makes changed p job op q
MakesOrLearns (Err busy) p job op q =
    Learns (busy.word / 2) p q × ((busy.word % 2 ≡ 1) ⊎ (length p.seen < busy.word / 2))
