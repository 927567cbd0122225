-- A shared unit as a machine: its states, and which of them are sound.
use Rattle.std.specs.Prelude.{◌≡◌, ℕ, suc, zero, ◌+◌, ◌*◌, ◌≤◌, List, [], ◌∷◌, length, Option, Some, None}
use Rattle.nvm_record.specs.Lists.{IsAt}
use Rattle.nvm_store.specs.HistoryEntry.{HistoryEntry}
use Rattle.nvm_store.specs.History.{IsLawfulHistory}
use Rattle.nvm_unit.specs.declared.bounds.Bounds.{Bounds}
use Rattle.nvm_unit.specs.declared.views.PassView.{PassView}
use Rattle.nvm_unit.specs.declared.views.Group.{Group}
use Rattle.nvm_unit.specs.Views.{Begins, entries_by, RiseWithin, newcomer}

-- The word is twice the number of entries, and one more while the unit is held. The slot is home with a
-- history, or out. The holder is the place of a group. Each group is what one seat carries.
pub record UnitState : Type 0 where
  pub word : ℕ
  pub slot : Option (List HistoryEntry)
  pub history : List HistoryEntry
  pub holder : Option ℕ
  pub groups : List Group

-- The pass is at place i of the group j.
pub record StandsAt (groups : List Group) (j i : ℕ) (p : PassView) : Type 0 where
  pub group : Group
  pub at : IsAt groups j group
  pub inside : IsAt group.passes i p

-- It is so of each pass.
abbrev pub EachPass : (PassView → Type 0) → List Group → Type 0
EachPass P groups = (j i : ℕ) (p : PassView) → StandsAt groups j i p → P p

-- Some pass has this number.
abbrev pub IsNumbered : List Group → ℕ → Type 0
IsNumbered groups number = (j i : ℕ) × (p : PassView) × StandsAt groups j i p × (p.number ≡ number)

-- The word, and the slot's value, while nobody holds the unit, and while somebody does.
abbrev pub RestsAs : Option ℕ → ℕ → Option (List HistoryEntry) → List HistoryEntry → Type 0
RestsAs None word slot history = (word ≡ 2 * length history) × (slot ≡ Some history)
RestsAs (Some j) word slot history = (word ≡ 2 * length history + 1) × (slot ≡ None)

-- A group that isn't the holder holds nothing.
abbrev pub IsHand : Option ℕ → List HistoryEntry → ℕ → Option (List HistoryEntry) → Type 0
IsHand holder history j None = Unit {0}
IsHand holder history j (Some held) = (holder ≡ Some j) × (held ≡ history)

-- The unit's history, and who holds it.
pub record IsHeld (b : Bounds) (s : UnitState) : Type 0 where
  pub lawful : IsLawfulHistory b.place s.history
  pub within : length s.history ≤ b.limit
  pub rests : RestsAs s.holder s.word s.slot s.history
  pub holder : (j : ℕ) → s.holder ≡ Some j → (g : Group) × IsAt s.groups j g × (g.held ≡ Some s.history)
  pub others : (j : ℕ) (g : Group) → IsAt s.groups j g → IsHand s.holder s.history j g.held
  pub seen : EachPass (λ p. Begins p.seen s.history) s.groups

-- What the passes have found and done. Marks never fall, and none is above the pass's floor.
pub record AreMarked (s : UnitState) : Type 0 where
  pub marks : EachPass (λ p. RiseWithin 0 p.marks p.floor) s.groups
  pub floors : EachPass (λ p. p.floor ≤ length s.history) s.groups
  pub bears : (k : ℕ) (entry : HistoryEntry) → IsAt s.history k entry → IsNumbered s.groups entry.pass
  pub mine : EachPass (λ p. entries_by p.number s.history ≡ p.mine) s.groups

pub record IsSound (b : Bounds) (s : UnitState) : Type 0 where
  pub hold : IsHeld b s
  pub marks : AreMarked s

-- as many passes as the second number says, numbered from `from` on
abbrev pub newcomers_from : Bounds → ℕ → ℕ → List PassView
newcomers_from b from zero = []
newcomers_from b from (suc n) = newcomer b from ∷ newcomers_from b (suc from) n

-- the passes of a new unit
abbrev pub newcomers : Bounds → List PassView
newcomers b = newcomers_from b 0 b.passes

-- a new unit: nobody holds it, its history is empty, and one group has all passes
abbrev pub opening_state : Bounds → UnitState
opening_state b =
    record {
      word = 0;
      slot = Some [];
      history = [];
      holder = None;
      groups = record { passes = newcomers b; held = None } ∷ [];
    }
