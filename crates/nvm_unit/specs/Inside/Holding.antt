-- What a seat knows once it has waited for the unit, and what two know that met.
use Rattle.std.specs.Prelude.{◌≡◌, ◌⊎◌, ℕ, ◌/◌, ◌%◌, ◌<◌, List, [], ◌∷◌, map, length, Bool, false}
use Rattle.nvm_store.specs.HistoryEntry.{HistoryEntry}
use Rattle.nvm_unit.specs.declared.views.PassView.{PassView}
use Rattle.nvm_unit.specs.Views.{looked, shown}
use Rattle.nvm_unit.specs.Inside.Book.{recorded}
use Rattle.nvm_unit.specs.Passes.{IsNotAbove, Finds}
use Rattle.nvm_unit.specs.Inside.Plays.{Sits, resting, EachIn}
use Rattle.nvm_unit.specs.Inside.Snapshot.{IsSnapshotOf}
use Rattle.nvm_unit.specs.declared.snapshot.Snapshot.{Snapshot}

-- Its steps so far, if any, decided nothing.
abbrev pub HasWaited : Sits → Sits → Type 0
HasWaited m m' =
    (m' ≡ m)
    ⊎ ((n : ℕ) × (m' ≡ (record m.0 { passes = map (looked false n) m.0.passes }, m.1)) × EachIn (IsNotAbove n) m.0.passes)

-- It didn't get the unit: the last step found this word, which is odd, or its half is more than what each of its passes
-- had seen.
pub record HasMissed (decides : ℕ → Bool) (word : ℕ) (m m' : Sits) : Type 0 where
  pub after : m' ≡ (record m.0 { passes = map (looked (decides word) (word / 2)) m.0.passes }, m.1)
  pub later : EachIn (IsNotAbove (word / 2)) m.0.passes
  pub newer : (word % 2 ≡ 1) ⊎ EachIn (λ p. length p.seen < word / 2) m.0.passes

-- Two passes were brought to one history, with what they keep of it.
abbrev pub HasMet : Snapshot → Snapshot → PassView → PassView → Sits → Sits → Type 0
HasMet one other p o m m' =
    (history : List HistoryEntry) × IsSnapshotOf one (recorded p.bounds history) × IsSnapshotOf other (recorded o.bounds history) × Finds (length history) p history × Finds (length history) o history
    × (m ≡ resting (shown false (length history) history p ∷ [])) × (m' ≡ resting (shown false (length history) history o ∷ []))
