-- What can happen to a shared unit. An event is one atomic step on its word, by one group of passes, or
-- by two. Of all views it changes theirs alone. Joins and splits see no word, so they leave each floor.
use Rattle.std.specs.Prelude.{◌≡◌, ◌≢◌, ℕ, ◌+◌, ◌*◌, ◌/◌, ◌<◌, List, [], ◌∷◌, ◌++◌, map, take, drop, length, slice_set, Bool, true, false, Some, None}
use Rattle.nvm_store.specs.HistoryEntry.{HistoryEntry}
use Rattle.nvm_store.specs.History.{CanFollow}
use Rattle.nvm_unit.specs.declared.bounds.Bounds.{Bounds}
use Rattle.nvm_unit.specs.declared.views.PassView.{PassView}
use Rattle.nvm_unit.specs.declared.views.Group.{Group}
use Rattle.nvm_unit.specs.Views.{looked, shown, added}
use Rattle.nvm_unit.specs.Machine.{UnitState, opening_state}
use Rattle.nvm_record.specs.Lists.{IsAt}

pub data Event : Type 0 where
  -- The group j loads the word; the step may decide.
  loads : ℕ → Bool → Event
  -- The group j takes the unit.
  takes : ℕ → Event
  -- The group j tries to take the unit, and finds another word; the step may decide.
  misses : ℕ → Bool → Event
  -- The group j puts the unit back with one entry more.
  adds : ℕ → HistoryEntry → Event
  -- The group j puts the unit back as it was; the step may decide.
  returns : ℕ → Bool → Event
  -- The group j takes in the passes of the group k, which is spent then.
  joins : ℕ → ℕ → Event
  -- The group j keeps its first i passes, and the others become a new group.
  splits : ℕ → ℕ → Event

-- the number of entries that a step finds
abbrev pub number_found : UnitState → ℕ
number_found s = s.word / 2

-- a group of these passes that holds nothing
abbrev pub idle : List PassView → Group
idle passes = record { passes = passes; held = None }

-- The group j can step: it isn't spent. Only a group of one pass decides.
pub record CanStep (s : UnitState) (j : ℕ) (g : Group) (decides : Bool) : Type 0 where
  pub at : IsAt s.groups j g
  pub some : 0 < length g.passes
  pub alone : decides ≡ true → length g.passes ≡ 1

-- the state after a step of the group j that leaves the unit as it was
abbrev pub after_look : UnitState → ℕ → Group → Bool → UnitState
after_look s j g decides =
    record s {
      groups = slice_set s.groups j (record g { passes = map (looked decides (number_found s)) g.passes });
    }

-- the state after the group j took the unit
abbrev pub after_take : UnitState → ℕ → Group → UnitState
after_take s j g =
    record s {
      word = 2 * number_found s + 1;
      slot = None;
      holder = Some j;
      groups = slice_set s.groups j (record { passes = map (looked false (number_found s)) g.passes; held = s.slot });
    }

-- the state after the group j put the unit back with what it held and one entry more
abbrev pub after_put : UnitState → ℕ → PassView → List HistoryEntry → HistoryEntry → UnitState
after_put s j p held entry =
    record {
      word = 2 * number_found s + 2;
      slot = Some (held ++ entry ∷ []);
      history = s.history ++ entry ∷ [];
      holder = None;
      groups = slice_set s.groups j (idle (added (number_found s) s.history entry p ∷ []));
    }

-- the state after the group j put the unit back as it was
abbrev pub after_return : UnitState → ℕ → Group → Bool → UnitState
after_return s j g decides =
    record {
      word = 2 * number_found s;
      slot = g.held;
      history = s.history;
      holder = None;
      groups = slice_set s.groups j (idle (map (shown decides (number_found s) s.history) g.passes));
    }

-- the state after the group j took in the passes of the group k
abbrev pub after_join : UnitState → ℕ → ℕ → List PassView → List PassView → UnitState
after_join s j k ps qs =
    record s { groups = slice_set (slice_set s.groups j (idle (ps ++ qs))) k (idle []) }

-- the state after the group j kept its first i passes
abbrev pub after_split : UnitState → ℕ → ℕ → List PassView → UnitState
after_split s j i ps =
    record s { groups = slice_set s.groups j (idle (take i ps)) ++ idle (drop i ps) ∷ [] }

-- The pass can add the entry: it holds the unit and is alone, the entry bears its number and can follow the
-- history, and there is room.
pub record CanAdd (b : Bounds) (s : UnitState) (j : ℕ) (p : PassView) (held : List HistoryEntry) (entry : HistoryEntry) : Type 0 where
  pub at : IsAt s.groups j (record { passes = p ∷ []; held = Some held })
  pub holds : s.holder ≡ Some j
  pub number : entry.pass ≡ p.number
  pub follows : CanFollow b.place s.history entry
  pub room : number_found s < b.limit

-- The event can happen in the state s, and leads to the state t.
abbrev pub Happens : Bounds → UnitState → Event → UnitState → Type 0
Happens b s (loads j decides) t = (g : Group) × CanStep s j g decides × (t ≡ after_look s j g decides)
Happens b s (takes j) t =
    (g : Group) × CanStep s j g false × (s.word ≡ 2 * number_found s) × (t ≡ after_take s j g)
Happens b s (misses j decides) t = (g : Group) × CanStep s j g decides × (t ≡ after_look s j g decides)
Happens b s (adds j entry) t =
    (p : PassView) × (held : List HistoryEntry) × CanAdd b s j p held entry × (t ≡ after_put s j p held entry)
Happens b s (returns j decides) t =
    (g : Group) × CanStep s j g decides × (s.holder ≡ Some j) × (t ≡ after_return s j g decides)
Happens b s (joins j k) t =
    (ps : List PassView) × (qs : List PassView) × IsAt s.groups j (idle ps) × IsAt s.groups k (idle qs) × (j ≢ k)
    × (t ≡ after_join s j k ps qs)
Happens b s (splits j i) t = (ps : List PassView) × IsAt s.groups j (idle ps) × (t ≡ after_split s j i ps)

-- The events can happen one after the other, and lead from s to t.
abbrev pub Lead : Bounds → UnitState → List Event → UnitState → Type 0
Lead b s [] t = t ≡ s
Lead b s (event ∷ events) t = (u : UnitState) × Happens b s event u × Lead b u events t

-- Some list of events leads from a new unit to this state.
abbrev pub IsReached : Bounds → UnitState → Type 0
IsReached b s = (events : List Event) × Lead b (opening_state b) events s
