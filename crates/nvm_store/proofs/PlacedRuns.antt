-- A placed run is a run of the step.
use Rattle.std.proofs.Common.{◌≡◌, ◌⊎◌, ℕ, ◌+◌, List, [], ◌∷◌, ◌++◌, length, take, Bool, true, false, cond, eqb, All, refl, ap, ◌∙◌, append_assoc}
use Rattle.std.proofs.lemmas.Bool.{eq-eqb}
use Rattle.std.proofs.lemmas.List.{take_at, length_push}
use Rattle.std.proofs.lemmas.List.Elements.{All-head, All-tail, All-cons, All-nil, All-filter, All-same}
use Rattle.nvm_record.specs.Deeds.{IsLook, IsFailedPair}
use Rattle.nvm_record.specs.Lists.{IsAt}
use Rattle.nvm_record.specs.Medium.{Medium, zero_medium}
use Rattle.nvm_record.specs.Step.{Operation, medium_after}
use Rattle.nvm_store.specs.declared.place.Place.{Place}
use Rattle.nvm_store.specs.Call.{Call, IsCallOn}
use Rattle.nvm_store.specs.HistoryEntry.{HistoryEntry}
use Rattle.nvm_store.specs.History.{replay_of, CanFollow, IsLawfulHistory}
use Rattle.nvm_store.specs.PlacedRun.{RunStep, changes, answers, IsRunFrom, entries_in, calls_in, StandAtPoints, calls_by, IsPlacedRun}
use Rattle.nvm_store.specs.Point.{point}
use Rattle.nvm_store.proofs.AtLemmas.{at_end}
use Rattle.nvm_store.proofs.Replays.{replay_from-append}

-- A look, and a pair that fails, leave the medium as it is.
abbrev pub LooksLeave : Type 0
LooksLeave =
    (size : ℕ) (op : Operation) (m : Medium) (lba : ℕ) → IsLook op.deed ⊎ IsFailedPair op m → medium_after size op m lba ≡ m lba

-- From the replay of the entries before, the rest of a placed run is a run of the step.
run_from : LooksLeave → (place : Place) (history before : List HistoryEntry) (run : List RunStep)
    → before ++ entries_in run ≡ history → IsLawfulHistory place history → StandAtPoints (length before) run
    → All (IsCallOn place history) (calls_in run) → IsRunFrom place.size (replay_of place.size before) run
run_from law place history before [] whole lawful at rest = tt
run_from law place history before (changes entry ∷ steps) whole lawful at rest =
    let n = length before in
    let here : IsAt history n entry = rw whole at (at_end before (entries_in steps) entry) in
    let taken : take n history ≡ before = rw whole at (take_at before (entry ∷ entries_in steps) n refl) in
    let follows : CanFollow place before entry = rw taken at (lawful n entry here) in
    let more : length (before ++ entry ∷ []) ≡ n + 1 = length_push before entry in
    let joined : (before ++ entry ∷ []) ++ entries_in steps ≡ history = append_assoc before (entry ∷ []) (entries_in steps) ∙ whole in
    let stepped : replay_of place.size (before ++ entry ∷ []) ≡ medium_after place.size entry.operation (replay_of place.size before) =
    replay_from-append place.size (zero_medium place.size) before entry in (
      follows.succeeds,
      rw stepped at (run_from law place history (before ++ entry ∷ []) steps joined lawful (rw more at) rest),
    )
run_from law place history before (answers call ∷ steps) whole lawful at rest =
    let n = length before in
    let on : IsCallOn place history call = All-head (IsCallOn place history) call (calls_in steps) rest in
    let taken : take n history ≡ before = rw whole at (take_at before (entries_in steps) n refl) in
    let here : point place.size history call.point ≡ replay_of place.size before = rw (at.0) (ap (replay_of place.size) taken) in
    let same : medium_after place.size call.operation (replay_of place.size before) ≡ replay_of place.size before =
    λ i lba. law place.size call.operation (replay_of place.size before) lba (rw here at on.leaves) i in (
      (rw here at on.rests.statuses, rw here at on.rests.payload),
      rw same (run_from law place history before steps whole lawful at.1 (All-tail (IsCallOn place history) call (calls_in steps) rest)),
    )

-- What is so of each pass's calls is so of all.
all_of_front : (P : Call → Type 0) (b : Bool) (call : Call) (calls : List Call) → All P (cond b (call ∷ calls) calls) → All P calls
all_of_front P true call calls all = All-tail P call calls all
all_of_front P false call calls all = all

all_by_pass : (P : Call → Type 0) (calls : List Call) → ((pass : ℕ) → All P (calls_by pass calls)) → All P calls
all_by_pass P [] each = All-nil P
all_by_pass P (call ∷ calls) each =
    let own : eqb call.pass call.pass ≡ true = eq-eqb call.pass call.pass refl in
    All-cons P call calls (All-head P call (calls_by call.pass calls) (rw own at (each call.pass)))
    (all_by_pass P calls (λ pass. all_of_front P (eqb call.pass pass) call (calls_by pass calls) (each pass)))

-- A placed run of a lawful history is a run of the step, where its calls rest on their points.
pub placed_runs_are_runs : LooksLeave → (place : Place) (history : List HistoryEntry) (calls : List Call) (run : List RunStep)
    → IsLawfulHistory place history → All (IsCallOn place history) calls → IsPlacedRun history calls run
    → IsRunFrom place.size (zero_medium place.size) run
placed_runs_are_runs law place history calls run lawful on placed =
    let P = IsCallOn place history in
    run_from law place history [] run placed.whole lawful placed.at_points
    (all_by_pass P (calls_in run)
    (λ pass. All-same P (calls_by pass (calls_in run)) (calls_by pass calls) (placed.in_order pass)
    (All-filter (λ call. eqb call.pass pass) P calls on)))
