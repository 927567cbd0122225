-- Calls are placed at their points between the entries of a history.
use Rattle.std.proofs.Common.{◌≡◌, ℕ, suc, ◌+◌, ◌<◌, ◌≤◌, List, [], ◌∷◌, ◌++◌, length, map, true, eqb, refl, ap, ◌∙◌, arith, inl, inr}
use Rattle.std.proofs.lemmas.Bool.{eq-eqb}
use Rattle.std.proofs.lemmas.Bool.Decides.{eqb_tells}
use Rattle.std.proofs.lemmas.List.Elements.{filter-append}
use Rattle.nvm_store.specs.Call.{Call}
use Rattle.nvm_store.specs.HistoryEntry.{HistoryEntry}
use Rattle.nvm_store.specs.PassOrder.{NeverGoBack}
use Rattle.nvm_store.specs.PlacedRun.{RunStep, changes, answers, entries_in, calls_in, StandAtPoints, calls_by, calls_at, placed_from, placed_run, IsPlacedRun}

-- Calls before other steps add no entry, and are themselves the first calls.
entries_behind : (calls : List Call) (steps : List RunStep) → entries_in (map answers calls ++ steps) ≡ entries_in steps
entries_behind [] steps = refl
entries_behind (call ∷ calls) steps = entries_behind calls steps

calls_before : (calls : List Call) (steps : List RunStep) → calls_in (map answers calls ++ steps) ≡ calls ++ calls_in steps
calls_before [] steps = refl
calls_before (call ∷ calls) steps = ap (λ (cs : List Call). call ∷ cs) (calls_before calls steps)

calls_alone : (calls : List Call) → calls_in (map answers calls) ≡ calls
calls_alone [] = refl
calls_alone (call ∷ calls) = ap (λ (cs : List Call). call ∷ cs) (calls_alone calls)

entries_alone : (calls : List Call) → entries_in (map answers calls) ≡ []
entries_alone [] = refl
entries_alone (call ∷ calls) = entries_alone calls

-- The calls at a point are there.
at_point_stand : (n : ℕ) (calls : List Call) (steps : List RunStep) → StandAtPoints n steps
    → StandAtPoints n (map answers (calls_at n calls) ++ steps)
at_point_stand n [] steps rest = rest
at_point_stand n (call ∷ calls) steps rest =
    elim (eqb_tells call.point n) [
      | inl here ↦ rw here.0 (here.1, at_point_stand n calls steps rest)
      | inr other ↦ rw other.0 (at_point_stand n calls steps rest)
    ]

stand_alone : (n : ℕ) (calls : List Call) → StandAtPoints n (map answers (calls_at n calls))
stand_alone n [] = tt
stand_alone n (call ∷ calls) =
    elim (eqb_tells call.point n) [
      | inl here ↦ rw here.0 (here.1, stand_alone n calls)
      | inr other ↦ rw other.0 (stand_alone n calls)
    ]

pub placed_stand : (n : ℕ) (entries : List HistoryEntry) (calls : List Call) → StandAtPoints n (placed_from n entries calls)
placed_stand n [] calls = stand_alone n calls
placed_stand n (entry ∷ entries) calls =
    at_point_stand n calls (changes entry ∷ placed_from (n + 1) entries calls) (placed_stand (n + 1) entries calls)

pub placed_whole : (n : ℕ) (entries : List HistoryEntry) (calls : List Call) → entries_in (placed_from n entries calls) ≡ entries
placed_whole n [] calls = entries_alone (calls_at n calls)
placed_whole n (entry ∷ entries) calls =
    entries_behind (calls_at n calls) (changes entry ∷ placed_from (n + 1) entries calls)
    ∙ ap (λ (es : List HistoryEntry). entry ∷ es) (placed_whole (n + 1) entries calls)

-- the calls in the order in which they are placed
abbrev in_turn : ℕ → List HistoryEntry → List Call → List Call
in_turn n [] calls = calls_at n calls
in_turn n (entry ∷ entries) calls = calls_at n calls ++ in_turn (n + 1) entries calls

placed_calls : (n : ℕ) (entries : List HistoryEntry) (calls : List Call) → calls_in (placed_from n entries calls) ≡ in_turn n entries calls
placed_calls n [] calls = calls_alone (calls_at n calls)
placed_calls n (entry ∷ entries) calls =
    calls_before (calls_at n calls) (changes entry ∷ placed_from (n + 1) entries calls)
    ∙ ap (λ (cs : List Call). calls_at n calls ++ cs) (placed_calls (n + 1) entries calls)

-- One pass's calls at a point are those at the point that are its own.
by_at : (pass n : ℕ) (calls : List Call) → calls_by pass (calls_at n calls) ≡ calls_at n (calls_by pass calls)
by_at pass n [] = refl
by_at pass n (call ∷ calls) =
    let same = by_at pass n calls in
    elim (eqb_tells call.point n) [
      | inl here ↦ elim (eqb_tells call.pass pass) [
        | inl own ↦ rw (here.0, own.0, here.0) (ap (λ (cs : List Call). call ∷ cs) same)
        | inr other ↦ rw (here.0, other.0) same
      ]
      | inr off ↦ elim (eqb_tells call.pass pass) [
        | inl own ↦ rw (off.0, own.0, off.0) same
        | inr other ↦ rw (off.0, other.0) same
      ]
    ]

by_in_turn : (pass n : ℕ) (entries : List HistoryEntry) (calls : List Call)
    → calls_by pass (in_turn n entries calls) ≡ in_turn n entries (calls_by pass calls)
by_in_turn pass n [] calls = by_at pass n calls
by_in_turn pass n (entry ∷ entries) calls =
    filter-append (λ call. eqb call.pass pass) (calls_at n calls) (in_turn (n + 1) entries calls)
    ∙ ap (λ (cs : List Call). cs ++ calls_by pass (in_turn (n + 1) entries calls)) (by_at pass n calls)
    ∙ ap (λ (cs : List Call). calls_at n (calls_by pass calls) ++ cs) (by_in_turn pass (n + 1) entries calls)

-- A call before all points that are left is placed at none of them.
passed : (n : ℕ) (entries : List HistoryEntry) (call : Call) (calls : List Call) → call.point < n
    → in_turn n entries (call ∷ calls) ≡ in_turn n entries calls
passed n [] call calls lt =
    elim (eqb_tells call.point n) [ inl here ↦ let is : call.point ≡ n = here.1 in absurd (omega arith) | inr off ↦ rw off.0 refl ]
passed n (entry ∷ entries) call calls lt =
    elim (eqb_tells call.point n) [
      | inl here ↦ let is : call.point ≡ n = here.1 in absurd (omega arith)
      | inr off ↦ rw off.0 (ap (λ (cs : List Call). calls_at n calls ++ cs) (passed (n + 1) entries call calls (omega arith)))
    ]

-- No call is at a point below all of them.
none_at : (n low high : ℕ) (calls : List Call) → n < low → NeverGoBack low high calls → calls_at n calls ≡ []
none_at n low high [] lt rise = refl
none_at n low high (call ∷ calls) lt rise =
    let above : low ≤ call.point = rise.0 in
    elim (eqb_tells call.point n) [
      | inl here ↦ let is : call.point ≡ n = here.1 in absurd (omega arith)
      | inr off ↦ rw off.0 (none_at n call.point high calls (omega arith) rise.2)
    ]

-- The first of calls whose points never go back is placed first.
first_placed : (n high : ℕ) (entries : List HistoryEntry) (call : Call) (calls : List Call) → high ≡ n + length entries → n ≤ call.point
    → call.point ≤ high → NeverGoBack call.point high calls
    → in_turn n entries (call ∷ calls) ≡ call ∷ in_turn n entries calls
first_placed n high [] call calls last low below rise =
    let here : eqb call.point n ≡ true = eq-eqb call.point n (omega arith) in
    rw here refl
first_placed n high (entry ∷ entries) call calls last low below rise =
    elim (eqb_tells call.point n) [
      | inl here ↦
          let is : call.point ≡ n = here.1 in
          rw (here.0) (ap (λ (cs : List Call). (call ∷ calls_at n calls) ++ cs) (passed (n + 1) entries call calls (omega arith)))
      | inr off ↦
          let not : call.point ≡ n → ⊥ = off.1 in
          let none : calls_at n calls ≡ [] = none_at n call.point high calls (omega arith) rise in
          rw (off.0, none) (first_placed (n + 1) high entries call calls (omega arith) (omega arith) below rise)
    ]

nothing_placed : (n : ℕ) (entries : List HistoryEntry) → in_turn n entries [] ≡ []
nothing_placed n [] = refl
nothing_placed n (entry ∷ entries) = nothing_placed (n + 1) entries

-- Calls whose points never go back are placed in their order.
placed_in_order : (n low high : ℕ) (entries : List HistoryEntry) (calls : List Call) → high ≡ n + length entries → n ≤ low
    → NeverGoBack low high calls → in_turn n entries calls ≡ calls
placed_in_order n low high entries [] last from rise = nothing_placed n entries
placed_in_order n low high entries (call ∷ calls) last from rise =
    let above : low ≤ call.point = rise.0 in
    first_placed n high entries call calls last (omega arith) rise.1 rise.2
    ∙ ap (λ (cs : List Call). call ∷ cs) (placed_in_order n call.point high entries calls last (omega arith) rise.2)

pub placed_run_is_placed : (history : List HistoryEntry) (calls : List Call)
    → ((pass : ℕ) → NeverGoBack 0 (length history) (calls_by pass calls)) → IsPlacedRun history calls (placed_run history calls)
placed_run_is_placed history calls rise = record {
  whole = placed_whole 0 history calls;
  in_order =
      λ pass.
      ap (calls_by pass) (placed_calls 0 history calls)
      ∙ by_in_turn pass 0 history calls
      ∙ placed_in_order 0 0 (length history) history (calls_by pass calls) (omega arith) (omega arith) (rise pass);
  at_points = placed_stand 0 history calls;
}

-- The points of one pass's calls in a placed run never go back.
points_rise : (pass low n : ℕ) (run : List RunStep) → low ≤ n → StandAtPoints n run
    → NeverGoBack low (n + length (entries_in run)) (calls_by pass (calls_in run))
points_rise pass low n [] from stand = tt
points_rise pass low n (changes entry ∷ steps) from stand =
    let more : n + suc (length (entries_in steps)) ≡ n + 1 + length (entries_in steps) = omega arith in
    rw more (points_rise pass low (n + 1) steps (omega arith) stand)
points_rise pass low n (answers call ∷ steps) from stand =
    let here : call.point ≡ n = stand.0 in
    elim (eqb_tells call.pass pass) [
      | inl own ↦ rw own.0 (omega arith, omega arith, points_rise pass call.point n steps (omega arith) stand.1)
      | inr other ↦ rw other.0 (points_rise pass low n steps from stand.1)
    ]

pub placed_back : (history : List HistoryEntry) (calls : List Call) (run : List RunStep) (pass : ℕ) → IsPlacedRun history calls run
    → NeverGoBack 0 (length history) (calls_by pass calls)
placed_back history calls run pass placed =
    let same : length (entries_in run) ≡ length history = ap length placed.whole in
    let high : 0 + length (entries_in run) ≡ length history = omega arith in
    rw (placed.in_order pass, high) at (points_rise pass 0 0 run (omega arith) placed.at_points)
