-- What holds of a space at any moment, whatever its ports are doing, and whether it keeps histories or not (own).
use Rattle.std.specs.Prelude.{◌≡◌, ℕ, ◌≤◌, List, Result, length, map}
use Rattle.nvm_record.specs.Lists.{IsAt}
use Rattle.nvm_record.specs.Step.{Operation}
use Rattle.nvm_store.specs.HistoryEntry.{HistoryEntry}
use Rattle.nvm_store.specs.Point.{point}
use Rattle.nvm_unit.specs.Events.{IsReached}
use Rattle.nvm_unit.specs.Machine.{UnitState, StandsAt}
use Rattle.nvm_unit.specs.Marks.{point_of_look}
use Rattle.nvm_unit.specs.Passes.{UnitName}
use Rattle.nvm_unit.specs.Replies.{AnswersChange, AnswersLook, point_of}
use Rattle.nvm_unit.specs.Views.{Begins}
use Rattle.nvm_unit.specs.declared.replies.Changed.{Changed}
use Rattle.nvm_unit.specs.declared.replies.Observed.{Observed}
use Rattle.nvm_unit.specs.declared.replies.ObserveFault.{ObserveFault}
use Rattle.nvm_unit.specs.declared.views.PassView.{PassView}
use Rattle.nvm_space.specs.Spaces.{SpaceName}

-- The states of the units at some moment: events led from each new unit to its state.
pub record AreStatesOf (s : SpaceName) (states : List UnitState) : Type 0 where
  pub count : length states ≡ length s.units
  pub reached : (k : ℕ) (unit : UnitName) (state : UnitState) → IsAt s.units k unit → IsAt states k state
      → IsReached unit.bounds state

-- the histories of that moment, in the order of the units
abbrev pub histories_of : List UnitState → List (List HistoryEntry)
histories_of states = map (λ state. state.history) states

-- By then one of the unit's passes has seen these entries.
pub record HasBeenSeen (seen : List HistoryEntry) (state : UnitState) : Type 0 where
  pub group : ℕ
  pub place : ℕ
  pub pass : PassView
  pub stands : StandsAt state.groups group place pass
  pub begins : Begins seen pass.seen

-- The answer's point is in the history, and not before what the pass had seen, with which the history begins.
pub record IsPointSince (p : PassView) (n : ℕ) (history : List HistoryEntry) : Type 0 where
  pub begins : Begins p.seen history
  pub since : length p.seen ≤ n
  pub within : n ≤ length history

-- What the pass was answered to its change is what the step gives at a point of the history, or that there was no memory or no
-- room there. The point isn't before what the pass had seen.
pub record ChangeRests (changed : Changed) (p : PassView) (op : Operation) (history : List HistoryEntry) : Type 0 where
  pub at : IsPointSince p (point_of changed) history
  pub answers : AnswersChange changed (point_of changed) p.bounds.limit op
      (point p.bounds.place.size history (point_of changed))

-- The same of its look.
pub record LookRests (answer : Result Observed ObserveFault) (p : PassView) (op : Operation) (history : List HistoryEntry) : Type 0 where
  pub at : IsPointSince p (point_of_look answer) history
  pub answers : AnswersLook answer (point_of_look answer) op (point p.bounds.place.size history (point_of_look answer))
