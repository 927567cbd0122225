-- The steps of one pass are in a placed run in the order in which it made them.
use Rattle.std.proofs.Common.{◌≡◌, ℕ, zero, suc, ◌+◌, ◌-◌, ◌≤◌, List, [], ◌∷◌, ◌++◌, length, drop, All, true, false, eqb, refl, ap, subst, sym, ◌∙◌, append_assoc, arith, inl, inr}
use Rattle.std.proofs.lemmas.Bool.{true≢false}
use Rattle.std.proofs.lemmas.Bool.Decides.{eqb_tells}
use Rattle.std.proofs.lemmas.List.{drop_at, length_push}
use Rattle.std.proofs.lemmas.List.Elements.{All-head, All-tail, All-same, filter_passes}
use mathlib.Core.Option.{some-injective, some-ne-none}
use Rattle.nvm_record.specs.Lists.{IsAt}
use Rattle.nvm_store.specs.Call.{Call}
use Rattle.nvm_store.specs.HistoryEntry.{HistoryEntry}
use Rattle.nvm_store.specs.PassOrder.{entries_of_pass, steps_by, StepsNeverGoBack}
use Rattle.nvm_store.specs.PlacedRun.{RunStep, changes, answers, entries_in, calls_in, calls_by, StandAtPoints, IsPlacedRun}
use Rattle.nvm_store.proofs.AtLemmas.{at_end}

-- Entries by this pass.
abbrev AreBy : ℕ → List HistoryEntry → Type 0
AreBy pass entries = All (λ entry. eqb entry.pass pass ≡ true) entries

-- From a place on there are no more entries by a pass than from one before it.
fewer_by_one : (pass n : ℕ) (entries : List HistoryEntry) → length (entries_of_pass pass (drop (suc n) entries)) ≤ length (entries_of_pass pass (drop n entries))
fewer_by_one pass zero [] = omega arith
fewer_by_one pass (suc n) [] = omega arith
fewer_by_one pass zero (entry ∷ entries) =
    elim (eqb_tells entry.pass pass) [ inl own ↦ rw own.0 (omega arith) | inr other ↦ rw other.0 (omega arith) ]
fewer_by_one pass (suc n) (entry ∷ entries) = fewer_by_one pass n entries

fewer_later : (pass low more : ℕ) (entries : List HistoryEntry)
    → length (entries_of_pass pass (drop (low + more) entries)) ≤ length (entries_of_pass pass (drop low entries))
fewer_later pass low zero entries = let same : low + 0 ≡ low = omega arith in rw same (omega arith)
fewer_later pass low (suc more) entries =
    let next : low + suc more ≡ suc (low + more) = omega arith in
    let one = fewer_by_one pass (low + more) entries in
    let rest = fewer_later pass low more entries in
    rw next (omega (arith, one, rest))

fewer : (pass low high : ℕ) (entries : List HistoryEntry) → low ≤ high
    → length (entries_of_pass pass (drop high entries)) ≤ length (entries_of_pass pass (drop low entries))
fewer pass low high entries le =
    let is : low + (high - low) ≡ high = omega arith in
    rw is at (fewer_later pass low (high - low) entries)

-- What is at a place is the first from there on.
drop_from : (entries : List HistoryEntry) (n : ℕ) (entry : HistoryEntry) → IsAt entries n entry → drop n entries ≡ entry ∷ drop (suc n) entries
drop_from [] n entry at = absurd (some-ne-none entry (sym at))
drop_from (e ∷ es) zero entry at = ap (λ (x : HistoryEntry). x ∷ es) (some-injective e entry at)
drop_from (e ∷ es) (suc n) entry at = drop_from es n entry at

-- Steps that never go back have no more entries than their pass has from there on.
no_more : (pass low : ℕ) (history : List HistoryEntry) (own : List RunStep) → StepsNeverGoBack history low own → AreBy pass (entries_in own)
    → length (entries_in own) ≤ length (entries_of_pass pass (drop low history))
no_more pass low history [] rise by = omega arith
no_more pass low history (answers call ∷ own) rise by =
    let rest = no_more pass call.point history own rise.2 by in
    let less = fewer pass low call.point history rise.0 in
    omega (arith, rest, less)
no_more pass low history (changes entry ∷ own) rise by =
    let place = rise.0 in
    let rest : length (entries_in own) ≤ length (entries_of_pass pass (drop (place + 1) history)) =
    no_more pass (place + 1) history own rise.3 (All-tail (λ e. eqb e.pass pass ≡ true) entry (entries_in own) by) in
    let less = fewer pass low place history rise.1 in
    let here : eqb entry.pass pass ≡ true = All-head (λ e. eqb e.pass pass ≡ true) entry (entries_in own) by in
    let next : place + 1 ≡ suc place = omega arith in
    let from : entries_of_pass pass (drop place history) ≡ entry ∷ entries_of_pass pass (drop (place + 1) history) =
    rw (drop_from history place entry rise.2, here, next) refl in
    let long : length (entries_of_pass pass (drop place history)) ≡ suc (length (entries_of_pass pass (drop (place + 1) history))) = ap length from in
    omega (arith, rest, less, long)

-- The first call of steps that never go back isn't before them.
first_call : (history : List HistoryEntry) (low : ℕ) (own : List RunStep) (call : Call) (calls : List Call) → StepsNeverGoBack history low own
    → calls_in own ≡ call ∷ calls → low ≤ call.point
first_call history low [] call calls rise is = absurd (cc)
first_call history low (answers c ∷ own) call calls rise is =
    let same : c ≡ call = cc in
    let above : low ≤ c.point = rise.0 in
    rw same at above
first_call history low (changes entry ∷ own) call calls rise is =
    let above : low ≤ rise.0 = rise.1 in
    let rest : rise.0 + 1 ≤ call.point = first_call history (rise.0 + 1) own call calls rise.3 is in
    omega arith

-- Nor is the first call of a pass before the steps that it is among.
first_standing : (pass n : ℕ) (run : List RunStep) (call : Call) (calls : List Call) → StandAtPoints n run
    → calls_by pass (calls_in run) ≡ call ∷ calls → n ≤ call.point
first_standing pass n [] call calls stand is = absurd (cc)
first_standing pass n (changes entry ∷ steps) call calls stand is =
    let rest : n + 1 ≤ call.point = first_standing pass (n + 1) steps call calls stand is in
    omega arith
first_standing pass n (answers c ∷ steps) call calls stand is =
    elim (eqb_tells c.pass pass) [
      | inl own ↦
          let first : c ∷ calls_by pass (calls_in steps) ≡ call ∷ calls = rw own.0 at is in
          let same : c ≡ call = cc in
          let here : c.point ≡ n = stand.0 in
          let at : call.point ≡ n = rw same at here in
          omega arith
      | inr other ↦ first_standing pass n steps call calls stand.1 (rw other.0 at is)
    ]

-- Where a pass's entry is at place n and is the first of its own, it is the first of its steps.
entry_first : (pass n low : ℕ) (history rest : List HistoryEntry) (entry : HistoryEntry) (own : List RunStep) → IsAt history n entry
    → drop (suc n) history ≡ rest → n ≤ low → StepsNeverGoBack history low own → AreBy pass (entries_in own)
    → entries_in own ≡ entry ∷ entries_of_pass pass rest
    → ((call : Call) (calls : List Call) → calls_in own ≡ call ∷ calls → suc n ≤ call.point)
    → (after : List RunStep) × (own ≡ changes entry ∷ after) × StepsNeverGoBack history (suc n) after
entry_first pass n low history rest entry [] at behind from rise by is late = absurd (cc)
entry_first pass n low history rest entry (answers call ∷ own) at behind from rise by is late =
    let past : suc n ≤ call.point = late call (calls_in own) refl in
    let some = no_more pass call.point history own rise.2 by in
    let less = fewer pass (suc n) call.point history past in
    let same : length (entries_of_pass pass (drop (suc n) history)) ≡ length (entries_of_pass pass rest) =
    ap (λ (es : List HistoryEntry). length (entries_of_pass pass es)) behind in
    let long : length (entries_in own) ≡ suc (length (entries_of_pass pass rest)) = ap length is in
    absurd (omega (arith, some, less, same, long))
entry_first pass n low history rest entry (changes e ∷ own) at behind from rise by is late =
    let place = rise.0 in
    let above : low ≤ place = rise.1 in
    elim (eqb_tells place n) [
      | inl here ↦
          let there : IsAt history n e = subst (λ (k : ℕ). IsAt history k e) here.1 rise.2 in
          let same : e ≡ entry = some-injective e entry (sym there ∙ at) in
          let next : place + 1 ≡ suc n = let h : place ≡ n = here.1 in omega arith in (
            own,
            ap (λ (x : HistoryEntry). changes x ∷ own) same,
            subst (λ (k : ℕ). StepsNeverGoBack history k own) next rise.3,
          )
      | inr off ↦
          let not : place ≡ n → ⊥ = off.1 in
          let past : suc n ≤ place = omega arith in
          let some = no_more pass place history (changes e ∷ own) (place, omega arith, rise.2, rise.3) by in
          let less = fewer pass (suc n) place history past in
          let same : length (entries_of_pass pass (drop (suc n) history)) ≡ length (entries_of_pass pass rest) =
          ap (λ (es : List HistoryEntry). length (entries_of_pass pass es)) behind in
          let long : suc (length (entries_in own)) ≡ suc (length (entries_of_pass pass rest)) = ap length is in
          absurd (omega (arith, some, less, same, long))
    ]

-- Where a pass's call is after n entries and is the first of its own, it is the first of its steps.
call_first : (n low : ℕ) (history : List HistoryEntry) (call : Call) (calls : List Call) (own : List RunStep) → n ≤ low → call.point ≡ n
    → StepsNeverGoBack history low own → calls_in own ≡ call ∷ calls
    → (after : List RunStep) × (own ≡ answers call ∷ after) × StepsNeverGoBack history n after
call_first n low history call calls [] from here rise is = absurd (cc)
call_first n low history call calls (answers c ∷ own) from here rise is =
    let same : c ≡ call = cc in
    let at : c.point ≡ n = rw same here in (
      own,
      ap (λ (x : Call). answers x ∷ own) same,
      subst (λ (k : ℕ). StepsNeverGoBack history k own) at rise.2,
    )
call_first n low history call calls (changes e ∷ own) from here rise is =
    let above : low ≤ rise.0 = rise.1 in
    let past : rise.0 + 1 ≤ call.point = first_call history (rise.0 + 1) own call calls rise.3 is in
    absurd (omega arith)

-- A pass's steps begin after another pass's entry.
past_other : (pass n low : ℕ) (history : List HistoryEntry) (entry : HistoryEntry) (own : List RunStep) → IsAt history n entry
    → eqb entry.pass pass ≡ false → n ≤ low → StepsNeverGoBack history low own → AreBy pass (entries_in own)
    → ((call : Call) (calls : List Call) → calls_in own ≡ call ∷ calls → suc n ≤ call.point)
    → StepsNeverGoBack history (suc n) own
past_other pass n low history entry [] at other from rise by late = tt
past_other pass n low history entry (answers call ∷ own) at other from rise by late =
    (late call (calls_in own) refl, rise.1, rise.2)
past_other pass n low history entry (changes e ∷ own) at other from rise by late =
    let place = rise.0 in
    let above : low ≤ place = rise.1 in
    elim (eqb_tells place n) [
      | inl here ↦
          let there : IsAt history n e = subst (λ (k : ℕ). IsAt history k e) here.1 rise.2 in
          let same : e ≡ entry = some-injective e entry (sym there ∙ at) in
          let mine : eqb e.pass pass ≡ true = All-head (λ x. eqb x.pass pass ≡ true) e (entries_in own) by in
          absurd (true≢false (sym mine ∙ ap (λ (x : HistoryEntry). eqb x.pass pass) same ∙ other))
      | inr off ↦ let not : place ≡ n → ⊥ = off.1 in (place, omega arith, rise.2, rise.3)
    ]

-- From the entries before, the steps of a pass in the rest of a placed run are its own.
in_order_from : (pass low : ℕ) (history before : List HistoryEntry) (run own : List RunStep) → before ++ entries_in run ≡ history
    → length before ≤ low → StandAtPoints (length before) run → StepsNeverGoBack history low own
    → entries_in own ≡ entries_of_pass pass (entries_in run) → calls_in own ≡ calls_by pass (calls_in run) → steps_by pass run ≡ own
in_order_from pass low history before [] [] whole from stand rise entries calls = refl
in_order_from pass low history before [] (changes e ∷ own) whole from stand rise entries calls = absurd (cc)
in_order_from pass low history before [] (answers c ∷ own) whole from stand rise entries calls = absurd (cc)
in_order_from pass low history before (answers call ∷ steps) own whole from stand rise entries calls =
    let n = length before in
    elim (eqb_tells call.pass pass) [
      | inl mine ↦
          let first : calls_in own ≡ call ∷ calls_by pass (calls_in steps) = rw mine.0 at calls in
          let split = call_first n low history call (calls_by pass (calls_in steps)) own from stand.0 rise first in
          let is : own ≡ answers call ∷ split.0 = split.1 in
          let entries' : entries_in split.0 ≡ entries_of_pass pass (entries_in steps) = sym (ap entries_in is) ∙ entries in
          let both : call ∷ calls_in split.0 ≡ call ∷ calls_by pass (calls_in steps) = sym (ap calls_in is) ∙ first in
          let calls' : calls_in split.0 ≡ calls_by pass (calls_in steps) = cc in
          rw mine.0
          (ap (λ (ss : List RunStep). answers call ∷ ss)
          (in_order_from pass n history before steps split.0 whole (omega arith) stand.1 split.2 entries' calls')
          ∙ sym is)
      | inr other ↦
          rw other.0 (in_order_from pass low history before steps own whole from stand.1 rise entries (rw other.0 at calls))
    ]
in_order_from pass low history before (changes entry ∷ steps) own whole from stand rise entries calls =
    let n = length before in
    let at : IsAt history n entry = rw whole at (at_end before (entries_in steps) entry) in
    let joined : (before ++ entry ∷ []) ++ entries_in steps ≡ history = append_assoc before (entry ∷ []) (entries_in steps) ∙ whole in
    let more : length (before ++ entry ∷ []) ≡ n + 1 = length_push before entry in
    let next : length (before ++ entry ∷ []) ≡ suc n = omega arith in
    let standing : StandAtPoints (length (before ++ entry ∷ [])) steps = rw more stand in
    let behind : drop (suc n) history ≡ entries_in steps = rw joined at (drop_at (before ++ entry ∷ []) (entries_in steps) (suc n) next) in
    let by : AreBy pass (entries_in own) =
    All-same (λ (x : HistoryEntry). eqb x.pass pass ≡ true) (entries_in own) (entries_of_pass pass (entry ∷ entries_in steps)) entries
    (filter_passes (λ (x : HistoryEntry). eqb x.pass pass) (entry ∷ entries_in steps)) in
    let late : (call : Call) (cs : List Call) → calls_in own ≡ call ∷ cs → suc n ≤ call.point =
    λ call cs is.
    let past : n + 1 ≤ call.point = first_standing pass (n + 1) steps call cs stand (sym calls ∙ is) in
    omega arith
    in
    elim (eqb_tells entry.pass pass) [
      | inl mine ↦
          let first : entries_in own ≡ entry ∷ entries_of_pass pass (entries_in steps) = rw mine.0 at entries in
          let split = entry_first pass n low history (entries_in steps) entry own at behind from rise by first late in
          let is : own ≡ changes entry ∷ split.0 = split.1 in
          let both : entry ∷ entries_in split.0 ≡ entry ∷ entries_of_pass pass (entries_in steps) = sym (ap entries_in is) ∙ first in
          let entries' : entries_in split.0 ≡ entries_of_pass pass (entries_in steps) = cc in
          let calls' : calls_in split.0 ≡ calls_by pass (calls_in steps) = sym (ap calls_in is) ∙ calls in
          rw mine.0
          (ap (λ (ss : List RunStep). changes entry ∷ ss)
          (in_order_from pass (suc n) history (before ++ entry ∷ []) steps split.0 joined (omega arith) standing split.2 entries' calls')
          ∙ sym is)
      | inr other ↦
          rw other.0
          (in_order_from pass (suc n) history (before ++ entry ∷ []) steps own joined (omega arith) standing
          (past_other pass n low history entry own at other.0 from rise by late) (rw other.0 at entries) calls)
    ]

pub steps_in_order : (history : List HistoryEntry) (calls : List Call) (run own : List RunStep) (pass : ℕ) → IsPlacedRun history calls run
    → StepsNeverGoBack history 0 own → entries_in own ≡ entries_of_pass pass history → calls_in own ≡ calls_by pass calls
    → steps_by pass run ≡ own
steps_in_order history calls run own pass placed rise entries asked =
    in_order_from pass 0 history [] run own placed.whole (omega arith) placed.at_points rise
    (entries ∙ sym (ap (entries_of_pass pass) placed.whole)) (asked ∙ sym (placed.in_order pass))
