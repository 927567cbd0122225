-- The replay of a history, entry by entry.
use Rattle.std.proofs.Common.{◌≡◌, ℕ, ◌+◌, ◌<◌, List, [], ◌∷◌, ◌++◌, length, get_or, take, refl, ap, sym, ◌∙◌, arith, inl, inr}
use Rattle.std.proofs.lemmas.List.{take_more, take-append-le, take_at}
use Rattle.nvm_record.specs.Lists.{IsAt}
use Rattle.nvm_record.specs.Medium.{Medium, zero_medium}
use Rattle.nvm_record.specs.Step.{medium_after}
use Rattle.nvm_store.specs.declared.place.Place.{Place}
use Rattle.nvm_store.specs.HistoryEntry.{HistoryEntry}
use Rattle.nvm_store.specs.History.{replay_from, replay_of, CanFollow, IsLawfulHistory}
use Rattle.nvm_store.specs.Point.{point}
use Rattle.nvm_store.proofs.AtLemmas.{at_below, get_or_at_place, at_append_left, at_end, at_push}

-- One entry more is one step more.
pub replay_from-append : (size : ℕ) (m : Medium) (entries : List HistoryEntry) (entry : HistoryEntry)
    → replay_from size m (entries ++ entry ∷ []) ≡ medium_after size entry.operation (replay_from size m entries)
replay_from-append size m [] entry = refl
replay_from-append size m (e ∷ es) entry = replay_from-append size (medium_after size e.operation m) es entry

-- The next point is the step of the entry between.
pub point-more : (size : ℕ) (history : List HistoryEntry) (n : ℕ) (entry : HistoryEntry) → IsAt history n entry
    → point size history (n + 1) ≡ medium_after size entry.operation (point size history n)
point-more size history n entry at =
    let lt : n < length history = at_below history n entry at in
    let read : get_or history n entry ≡ entry = get_or_at_place history n entry entry at in
    ap (replay_of size) (take_more history n entry lt)
    ∙ replay_from-append size (zero_medium size) (take n history) (get_or history n entry)
    ∙ ap (λ (e : HistoryEntry). medium_after size e.operation (point size history n)) read

-- What a lawful history begins with is lawful.
pub lawful_beginning : (place : Place) (begin rest : List HistoryEntry)
    → IsLawfulHistory place (begin ++ rest) → IsLawfulHistory place begin
lawful_beginning place begin rest lawful i entry at =
    let lt : i < length begin = at_below begin i entry at in
    let taken : take i (begin ++ rest) ≡ take i begin = take-append-le i begin rest (omega arith) in
    rw taken at (lawful i entry (at_append_left begin rest i entry at))

-- The last entry of a lawful history can follow the others.
pub lawful_last : (place : Place) (history : List HistoryEntry) (entry : HistoryEntry)
    → IsLawfulHistory place (history ++ entry ∷ []) → CanFollow place history entry
lawful_last place history entry lawful =
    let n = length history in
    let taken : take n (history ++ entry ∷ []) ≡ history = take_at history (entry ∷ []) n refl in
    rw taken at (lawful n entry (at_end history [] entry))

-- An entry that can follow a lawful history makes a lawful one.
pub lawful_push : (place : Place) (history : List HistoryEntry) (entry : HistoryEntry)
    → IsLawfulHistory place history → CanFollow place history entry → IsLawfulHistory place (history ++ entry ∷ [])
lawful_push place history entry lawful follows i e at =
    elim (at_push history entry i e at) [
      | inl before ↦
          let lt : i < length history = at_below history i e before in
          let taken : take i (history ++ entry ∷ []) ≡ take i history = take-append-le i history (entry ∷ []) (omega arith) in
          rw taken (lawful i e before)
      | inr last ↦
          let taken : take i (history ++ entry ∷ []) ≡ history = take_at history (entry ∷ []) i (sym last.0) in
          rw (taken, last.1) follows
    ]
