-- What each atomic step reports to the seat that makes it.
use Rattle.std.specs.Prelude.{◌≡◌, ◌≢◌, ◌⊎◌, ℕ, ◌+◌, ◌*◌, ◌/◌, ◌<◌, ◌≤◌, List, [], ◌∷◌, ◌++◌, map, take, drop, length, Bool, true, false, Option, Some}
use Rattle.atomic_table.specs.Table.{Me, Step}
use Rattle.nvm_store.specs.HistoryEntry.{HistoryEntry}
use Rattle.nvm_store.specs.History.{CanFollow}
use Rattle.nvm_unit.specs.declared.bounds.Bounds.{Bounds}
use Rattle.nvm_unit.specs.declared.views.PassView.{PassView}
use Rattle.nvm_unit.specs.declared.views.Group.{Group}
use Rattle.nvm_unit.specs.Views.{Begins, entries_by, looked, shown, added}
use Rattle.nvm_unit.specs.Machine.{UnitState}
use Rattle.nvm_record.specs.Lists.{IsAt}
use Rattle.nvm_unit.specs.Inside.Book.{Recorded, recorded}
use Rattle.nvm_unit.specs.Events.{Event, loads, takes, misses, adds, returns, idle, Happens, IsReached}
use Rattle.nvm_unit.specs.Passes.{IsHistoryOf, IsNotAbove}

-- what a seat carries, and the slot if it took it
abbrev pub Sits : Type 0
Sits = Me (Option Recorded) Group

-- a seat with these passes, which doesn't hold the unit
abbrev pub resting : List PassView → Sits
resting passes = (idle passes, [])

-- A seat with these passes, which holds the unit and its history. `book` is in the slot now.
abbrev pub holding : List PassView → List HistoryEntry → Recorded → Sits
holding passes history book = (record { passes = passes; held = Some history }, (0, Some book) ∷ [])

-- It is so of each of them.
abbrev pub EachIn : (PassView → Type 0) → List PassView → Type 0
EachIn P passes = (i : ℕ) (p : PassView) → IsAt passes i p → P p

-- What holds of a pass at this history.
pub record Fits (b : Bounds) (history : List HistoryEntry) (p : PassView) : Type 0 where
  pub bounds : p.bounds ≡ b
  pub number : p.number < b.passes
  pub seen : Begins p.seen history
  pub floor : p.floor ≤ length history
  pub mine : entries_by p.number history ≡ p.mine
  pub own : entries_by p.number p.seen ≡ p.mine

-- A load that finds this word, or a compare_exchange that is lost to it.
pub record HasLooked (decides : ℕ → Bool) (word : ℕ) (m m' : Sits) : Type 0 where
  pub after : m' ≡ (record m.0 { passes = map (looked (decides word) (word / 2)) m.0.passes }, m.1)
  pub later : EachIn (IsNotAbove (word / 2)) m.0.passes

-- A compare_exchange that takes the unit, with this history.
pub record HasTaken (b : Bounds) (history : List HistoryEntry) (m m' : Sits) : Type 0 where
  pub after : m' ≡ holding (map (looked false (length history)) m.0.passes) history (recorded b history)
  pub fits : EachIn (Fits b history) m.0.passes
  pub lawful : IsHistoryOf b history

abbrev pub Takes : Sits → Sits → Type 0
Takes m m' = (b : Bounds) × (history : List HistoryEntry) × HasTaken b history m m'

-- The step was one event of this kind, by the seat's group, which found this word: it led from a state to
-- which events lead to the next.
pub record WasEvent (kind : ℕ → Event) (word : ℕ) (m m' : Sits) : Type 0 where
  pub bounds : Bounds
  pub before : UnitState
  pub after : UnitState
  pub group : ℕ
  pub reached : IsReached bounds before
  pub happened : Happens bounds before (kind group) after
  pub found : before.word ≡ word
  pub at : IsAt before.groups group m.0
  pub at_after : IsAt after.groups group m'.0

-- The step was a put: with one entry more, or as it was.
abbrev pub WasPut : (ℕ → Bool) → Sits → Sits → Type 0
WasPut decides m m' =
    (word : ℕ) × (WasEvent (λ j. returns j (decides word)) word m m' ⊎ ((entry : HistoryEntry) × WasEvent (λ j. adds j entry) word m m'))

-- a load
abbrev pub looks : (ℕ → Bool) → Step (Option Recorded) → Sits → ℕ → Sits → Type 0
looks decides step m word m' = HasLooked decides word m m' × WasEvent (λ j. loads j (decides word)) word m m'

-- a compare_exchange of a free word for the one that says that the unit is held
abbrev pub tries : (ℕ → Bool) → Step (Option Recorded) → Sits → ℕ → Sits → Type 0
tries decides step m word m' =
    (word ≡ step.first → Takes m m' × WasEvent takes word m m')
    × (word ≢ step.first → HasLooked decides word m m' × WasEvent (λ j. misses j (decides word)) word m m')

-- The unit is put back as it was, with `entries` entries.
abbrev pub ReturnsAs : (ℕ → Bool) → ℕ → Sits → Sits → Type 0
ReturnsAs decides entries m m' =
    (ps : List PassView) (history : List HistoryEntry) (book : Recorded)
    → m ≡ holding ps history book → entries ≡ length history
    → m' ≡ resting (map (shown (decides (2 * length history + 1)) (length history) history) ps)

-- The unit is put back with one entry more, and then has `entries` of them.
abbrev pub AddsAs : ℕ → Sits → Sits → Type 0
AddsAs entries m m' =
    (p : PassView) (history : List HistoryEntry) (entry : HistoryEntry)
    → m ≡ holding (p ∷ []) history (recorded p.bounds (history ++ entry ∷ [])) → entries ≡ length history + 1
    → m' ≡ resting (added (length history) history entry p ∷ [])

-- a store that puts the unit back
abbrev pub puts : (ℕ → Bool) → Step (Option Recorded) → Sits → ℕ → Sits → Type 0
puts decides step m word m' =
    (entries : ℕ) → step.first ≡ 2 * entries → ReturnsAs decides entries m m' × AddsAs entries m m' × WasPut decides m m'

-- The seat can put the unit back as it was: the slot has the book of the history that is held.
pub record CanReturn (decides : ℕ → Bool) (entries : ℕ) (m : Sits) (ps : List PassView) (history : List HistoryEntry) (b : Bounds) : Type 0 where
  pub at : m ≡ holding ps history (recorded b history)
  pub count : entries ≡ length history
  pub filled : 0 < length ps
  pub bounds : EachIn (λ p. p.bounds ≡ b) ps
  pub alone : decides (2 * length history + 1) ≡ true → length ps ≡ 1

-- The seat can put the unit back with one entry more: the slot has its book.
pub record CanAppend (entries : ℕ) (m : Sits) (p : PassView) (history : List HistoryEntry) (entry : HistoryEntry) : Type 0 where
  pub at : m ≡ holding (p ∷ []) history (recorded p.bounds (history ++ entry ∷ []))
  pub count : entries ≡ length history + 1
  pub number : entry.pass ≡ p.number
  pub follows : CanFollow p.bounds.place history entry
  pub room : length history < p.bounds.limit

-- how passes that meet are separated again: the first stays
abbrev pub first_of : Group → Group
first_of g = idle (take 1 g.passes)

abbrev pub others_of : Group → Group
others_of g = idle (drop 1 g.passes)

-- two groups as one
abbrev pub together : Group → Group → Group
together g h = idle (g.passes ++ h.passes)
