-- The table of zeroes has a place for each step that has one in its unit's history.
use Rattle.std.proofs.Common.{◌≡◌, ℕ, ◌+◌, ◌*◌, ◌<◌, ◌≤◌, List, [], All, length, map, get_or, replicate, sym, ap, subst, ◌∙◌, inl, inr, arith}
use Rattle.std.proofs.lemmas.Bool.{cases_lt}
use Rattle.std.proofs.lemmas.List.{get_or-map, get_or_past, get_or-replicate, length-map, length-replicate}
use Rattle.nvm_record.specs.Lists.{IsAt}
use Rattle.nvm_store.specs.HistoryEntry.{HistoryEntry}
use Rattle.nvm_audit.specs.declared.version.Version.{Version}
use Rattle.nvm_audit.specs.declared.version.Version.TheVariants.{One, Two}
use Rattle.nvm_audit.specs.Recordable.{HoldsLimit, IsRecordable}
use Rattle.nvm_audit.specs.RecordView.{RecordView}
use Rattle.nvm_trace.specs.declared.step.Step.{Step}
use Rattle.nvm_trace.specs.Inside.Latest.{time_at, HasRoom, HasEachLevel}
use Rattle.nvm_trace.specs.Inside.Table.{empty_row, AreEmptyRows, HasPlace}
use Rattle.nvm_trace.proofs.Places.{below, read_is, at_map, read_there, some_there}

module _ (units : List (List HistoryEntry)) where
  row_at : (unit : ℕ) (history : List HistoryEntry) → unit < length units → get_or units unit history ≡ history
      → get_or (map empty_row units) unit [] ≡ empty_row history
  row_at unit history low is = get_or-map empty_row units unit history [] low ∙ ap empty_row is

  room_of_place : (s : Step) → HasPlace units s → HasRoom (map empty_row units) s
  room_of_place s place =
      let low = below units s.unit place.history place.there in
      let row = row_at s.unit place.history low (read_is units s.unit place.history place.history place.there) in
      let long = length-map units empty_row in
      let within = place.within in
      let wide : length (get_or (map empty_row units) s.unit []) ≡ 2 * length place.history + 1 =
      ap length row ∙ length-replicate {A = ℕ} (2 * length place.history + 1) 0 in
      (omega (arith, low, long), omega (arith, within, wide))

  pub room_of_places : (rows : List (List ℕ)) (steps : List Step) → AreEmptyRows units rows → All (HasPlace units) steps
      → All (HasRoom rows) steps
  room_of_places rows steps is places = λ k d low.
      subst (λ (rs : List (List ℕ)). HasRoom rs (get_or steps k d)) (sym is) (room_of_place (get_or steps k d) (places k d low))

  zero_there : (n i : ℕ) → ◌≡◌ {A = ℕ} (get_or (replicate n 0) i 0) 0
  zero_there n i = elim (cases_lt i n) [
    | inl low ↦ get_or-replicate n i 0 0 low
    | inr high ↦ let long = length-replicate {A = ℕ} n 0 in get_or_past (replicate n 0) i 0 (omega (arith, long, high))
  ]

  no_time : (unit level : ℕ) → time_at (map empty_row units) unit level ≡ 0
  no_time unit level = elim (cases_lt unit (length units)) [
    | inl low ↦
        let history = some_there units unit low in
        let row = row_at unit history.0 low (read_is units unit history.0 history.0 history.1) in
        ap (λ (r : List ℕ). get_or r level 0) row ∙ zero_there (2 * length history.0 + 1) level
    | inr high ↦
        let long = length-map units empty_row in
        ap (λ (r : List ℕ). get_or r level 0) (get_or_past (map empty_row units) unit [] (omega (arith, long, high)))
  ]

  pub none_yet : (rows : List (List ℕ)) → AreEmptyRows units rows → HasEachLevel [] rows
  none_yet rows is = λ unit level.
      let zero : time_at rows unit level ≡ 0 = ap (λ (rs : List (List ℕ)). time_at rs unit level) is ∙ no_time unit level in
      record {
        above = λ s has of at. let low = has.1 in absurd (omega (arith, low));
        one = λ some. absurd (omega (arith, some, zero));
      }

low_limit : (version : Version) (limit : ℕ) → HoldsLimit version limit → limit ≤ 4194304
low_limit One limit held = let high = held.1 in omega (arith, high)
low_limit Two limit held = held.1

-- Each history of a record has few entries.
pub few_in_each : {A : Type 0} (f : A → List HistoryEntry) (r : RecordView) (units : List A) → IsRecordable r → r.units ≡ map f units
    → All (λ history. length (f history) ≤ 4194304) units
few_in_each f r units held are = λ k d low.
    let at = at_map f units k (get_or units k d) (read_there units k d low) in
    let its = held.units k (f (get_or units k d)) (subst (λ hs. IsAt hs k (f (get_or units k d))) (sym are) at) in
    let few = its.few in
    let high = low_limit r.version r.limit held.limit in
    omega (arith, few, high)
