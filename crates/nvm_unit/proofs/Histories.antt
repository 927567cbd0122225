-- Histories that grow: what begins them, whose entries they have, and marks that rise.
use Rattle.std.proofs.Common.{◌≡◌, ◌≢◌, ℕ, suc, ◌+◌, ◌/◌, ◌≤◌, ◌==◌, if◌then◌else◌, Bool, true, false, List, [], ◌∷◌, ◌++◌, length, eq-eqb, ne_eqb, append_assoc, append-nil, length-append, refl, sym, ap, ◌∙◌, arith, Option, Some, None}
use Rattle.nvm_store.specs.HistoryEntry.{HistoryEntry}
use Rattle.nvm_unit.specs.Views.{Begins, entries_by_from, entries_by, RiseWithin, marks_after}
use Rattle.nvm_unit.specs.Machine.{RestsAs}

pub begins_itself : (history : List HistoryEntry) → Begins history history
begins_itself history = ([], sym (append-nil history))

pub begins_more : (seen history : List HistoryEntry) (entry : HistoryEntry) → Begins seen history → Begins seen (history ++ entry ∷ [])
begins_more seen history entry begins =
    (begins.0 ++ entry ∷ [], ap (λ (x : List HistoryEntry). x ++ entry ∷ []) begins.1 ∙ append_assoc seen begins.0 (entry ∷ []))

pub begins_length : (seen history : List HistoryEntry) → Begins seen history → length seen ≤ length history
begins_length seen history begins = omega (arith, ap length begins.1, length-append seen begins.0)

-- What is begun by as many entries is no more than they are.
pub begins_all : (seen history : List HistoryEntry) → Begins seen history → length history ≡ length seen → history ≡ seen
begins_all [] [] begins same = refl
begins_all [] (x ∷ xs) begins same = absurd (omega arith)
begins_all (x ∷ xs) [] begins same = absurd (omega arith)
begins_all (x ∷ xs) (y ∷ ys) begins same =
    let both : y ∷ ys ≡ x ∷ (xs ++ begins.0) = begins.1 in
    let head : y ≡ x = cc in
    let tail : ys ≡ xs ++ begins.0 = cc in
    let rest : ys ≡ xs = begins_all xs ys (begins.0, tail) (omega arith) in
    ap (λ (l : HistoryEntry). l ∷ ys) head ∙ ap (λ (ls : List HistoryEntry). x ∷ ls) rest

-- One entry at a place, if it bears the number.
abbrev kept_if : Bool → ℕ → HistoryEntry → List (ℕ × HistoryEntry) → List (ℕ × HistoryEntry)
kept_if bears from entry rest = if bears then (from, entry) ∷ rest else rest

kept_if-append : (bears : Bool) (from : ℕ) (entry : HistoryEntry) (rest more : List (ℕ × HistoryEntry))
    → kept_if bears from entry (rest ++ more) ≡ kept_if bears from entry rest ++ more
kept_if-append true from entry rest more = refl
kept_if-append false from entry rest more = refl

-- The entries of two histories, one after the other.
entries-append : (from pass : ℕ) (history more : List HistoryEntry)
    → entries_by_from from pass (history ++ more) ≡ entries_by_from from pass history ++ entries_by_from (from + length history) pass more
entries-append from pass [] more = let n : from + 0 ≡ from = omega arith in rw n refl
entries-append from pass (x ∷ xs) more =
    let n : suc from + length xs ≡ from + suc (length xs) = omega arith in
    ap (kept_if (x.pass == pass) from x) (rw n at (entries-append (suc from) pass xs more))
    ∙ kept_if-append (x.pass == pass) from x (entries_by_from (suc from) pass xs) (entries_by_from (from + suc (length xs)) pass more)

-- The entry is one more of the pass whose number it bears.
pub entries_more : (pass : ℕ) (history : List HistoryEntry) (entry : HistoryEntry) → entry.pass ≡ pass
    → entries_by pass (history ++ entry ∷ []) ≡ entries_by pass history ++ (length history, entry) ∷ []
entries_more pass history entry is =
    let n : 0 + length history ≡ length history = omega arith in
    let one : entries_by_from (0 + length history) pass (entry ∷ []) ≡ (length history, entry) ∷ [] = rw (n, eq-eqb entry.pass pass is) refl in
    entries-append 0 pass history (entry ∷ []) ∙ ap (λ (x : List (ℕ × HistoryEntry)). entries_by pass history ++ x) one

-- It is none of another.
pub entries_same : (pass : ℕ) (history : List HistoryEntry) (entry : HistoryEntry) → entry.pass ≢ pass
    → entries_by pass (history ++ entry ∷ []) ≡ entries_by pass history
entries_same pass history entry not =
    let one : entries_by_from (0 + length history) pass (entry ∷ []) ≡ [] = rw (ne_eqb entry.pass pass not) refl in
    entries-append 0 pass history (entry ∷ []) ∙ (ap (λ (x : List (ℕ × HistoryEntry)). entries_by pass history ++ x) one ∙ append-nil (entries_by pass history))

pub rise_up : (low : ℕ) (marks : List ℕ) (high n : ℕ) → RiseWithin low marks high → high ≤ n → RiseWithin low marks n
rise_up low [] high n rises le = let h : low ≤ high = rises in omega arith
rise_up low (m ∷ ms) high n rises le = (rises.0, rise_up m ms high n rises.1 le)

pub rise_more : (low : ℕ) (marks : List ℕ) (high n : ℕ) → RiseWithin low marks high → high ≤ n → RiseWithin low (marks ++ n ∷ []) n
rise_more low [] high n rises le = let h : low ≤ high = rises in (omega arith, omega arith)
rise_more low (m ∷ ms) high n rises le = (rises.0, rise_more m ms high n rises.1 le)

pub rise_after : (decides : Bool) (marks : List ℕ) (high n : ℕ) → RiseWithin 0 marks high → high ≤ n → RiseWithin 0 (marks_after decides n marks) n
rise_after true marks high n rises le = rise_more 0 marks high n rises le
rise_after false marks high n rises le = rise_up 0 marks high n rises le

-- The word says how many entries there are.
pub number_is : (holder : Option ℕ) (word : ℕ) (slot : Option (List HistoryEntry)) (history : List HistoryEntry) → RestsAs holder word slot history → word / 2 ≡ length history
number_is None word slot history rests = let h = rests.0 in omega arith
number_is (Some j) word slot history rests = let h = rests.0 in omega arith
