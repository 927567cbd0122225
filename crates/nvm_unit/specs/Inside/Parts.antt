-- One pass at a seat of its own: at rest, and while it has the unit.
use Rattle.std.specs.Prelude.{◌≡◌, ◌⊎◌, ℕ, ◌/◌, ◌%◌, ◌<◌, Bool, List, [], ◌∷◌, length, is_some, unwrap_or}
use Rattle.nvm_store.specs.HistoryEntry.{HistoryEntry}
use Rattle.nvm_unit.specs.declared.pass.Parts.{Parts}
use Rattle.nvm_unit.specs.declared.snapshot.Snapshot.{Snapshot}
use Rattle.nvm_unit.specs.declared.views.PassView.{PassView}
use Rattle.nvm_unit.specs.Inside.Book.{recorded}
use Rattle.nvm_unit.specs.Inside.Plays.{Sits, resting, holding}
use Rattle.nvm_unit.specs.Inside.Seats.{only}
use Rattle.nvm_unit.specs.Inside.Snapshot.{IsSnapshotOf}
use Rattle.nvm_unit.specs.Passes.{UnitName, PassState, IsNotAbove, IsProperPass, Finds}
use Rattle.nvm_unit.specs.Views.{looked}

-- the pass at a seat
abbrev pub seated : Sits → PassView
seated m = only m.0.passes

-- the history of the unit that a seat holds
abbrev pub held_history : Sits → List HistoryEntry
held_history m = unwrap_or m.0.held []

-- what contracts see of a pass that has these parts
abbrev pub state_of : {K : Type 0} → Parts K → PassState
state_of parts =
    record {
      table = parts.token.seat.table_id;
      view = seated parts.token.seat.me;
      keeps = is_some parts.snapshot.version;
    }

-- The snapshot is of what the pass has seen.
abbrev pub Recalls : Snapshot → PassView → Type 0
Recalls snapshot p = IsSnapshotOf snapshot (recorded p.bounds p.seen)

-- The parts are those of one pass, which doesn't have the unit.
pub record IsWhole {K : Type 0} (parts : Parts K) : Type 0 where
  pub alone : parts.token.seat.me ≡ resting (seated parts.token.seat.me ∷ [])
  pub numbered : parts.number ≡ (seated parts.token.seat.me).number
  pub recalls : Recalls parts.snapshot (seated parts.token.seat.me)
  pub proper : IsProperPass (seated parts.token.seat.me)

-- The seat has one pass, which is of this unit and doesn't have it.
pub record IsFree (unit : UnitName) (m : Sits) : Type 0 where
  pub alone : m ≡ resting (seated m ∷ [])
  pub bounds : (seated m).bounds ≡ unit.bounds
  pub proper : IsProperPass (seated m)

-- The seat has one pass, which has this unit. The book is in the slot.
pub record HasUnit (unit : UnitName) (m : Sits) : Type 0 where
  pub alone : m ≡ holding (seated m ∷ []) (held_history m) (recorded unit.bounds (held_history m))
  pub bounds : (seated m).bounds ≡ unit.bounds
  pub below : (seated m).number < unit.bounds.passes
  pub finds : Finds (length (held_history m)) (seated m) (held_history m)
  pub proper : IsProperPass (seated m)

-- A pass tried for the unit and met this word instead: an odd one, or one of a longer history than it had seen.
pub record FailsAt (word : ℕ) (decides : ℕ → Bool) (p q : PassView) : Type 0 where
  pub found : IsNotAbove (word / 2) p
  pub after : q ≡ looked (decides word) (word / 2) p
  pub newer : (word % 2 ≡ 1) ⊎ (length p.seen < word / 2)
