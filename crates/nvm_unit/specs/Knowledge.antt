-- What is known of a unit beyond that its state is sound. It is kept with it at each step.
use Rattle.std.specs.Prelude.{◌≡◌, ℕ, ◌<◌, List, length, Some}
use Rattle.nvm_store.specs.HistoryEntry.{HistoryEntry}
use Rattle.nvm_unit.specs.declared.bounds.Bounds.{Bounds}
use Rattle.nvm_unit.specs.declared.views.PassView.{PassView}
use Rattle.nvm_unit.specs.declared.views.Group.{Group}
use Rattle.nvm_unit.specs.Views.{entries_by}
use Rattle.nvm_unit.specs.Machine.{UnitState, StandsAt, EachPass, IsSound}
use Rattle.nvm_record.specs.Lists.{IsAt}

-- The passes have the numbers below `count`, each of them one pass. `spot` says where it is: the
-- group, and the place in it.
pub record ArePlaced (count : ℕ) (spot : ℕ → ℕ × ℕ) (groups : List Group) : Type 0 where
  pub below : EachPass (λ p. p.number < count) groups
  pub here : (j i : ℕ) (p : PassView) → StandsAt groups j i p → spot p.number ≡ (j, i)
  pub all : (number : ℕ) → number < count
      → (p : PassView) × StandsAt groups (spot number).0 (spot number).1 p × (p.number ≡ number)

-- A pass is one of this unit, and has seen all that it has done.
pub record Knows (b : Bounds) (p : PassView) : Type 0 where
  pub bounds : p.bounds ≡ b
  pub own : entries_by p.number p.seen ≡ p.mine

-- The state is sound, and what goes beyond it.
pub record IsKnown (b : Bounds) (s : UnitState) : Type 0 where
  pub sound : IsSound b s
  pub spot : ℕ → ℕ × ℕ
  pub placed : ArePlaced b.passes spot s.groups
  pub knows : EachPass (Knows b) s.groups
  -- A spent group doesn't hold the unit.
  pub hands : (j : ℕ) (g : Group) (held : List HistoryEntry) → IsAt s.groups j g → g.held ≡ Some held → 0 < length g.passes
