-- The function that `==` of entries computes. It is true exactly where they are equal: the clauses of `==` say so.
use Rattle.std.specs.Prelude.{ℕ, List, [], ◌∷◌, Bool, nat_eq}
use Rattle.std.specs.List.{flat_map}
use Rattle.std.specs.Cmp.Lexicographic.{pointwise}
use Rattle.std.specs.Ordering.{on, eq_of_both}
use Rattle.nvm_record.specs.Step.{Deed, writes, zeroes, uncorrectable, reads, compares, pairs, deallocates}
use Rattle.nvm_store.specs.HistoryEntry.{HistoryEntry}

-- a number for each kind of deed
abbrev pub kind_of : Deed → ℕ
kind_of (writes payload) = 0
kind_of zeroes = 1
kind_of uncorrectable = 2
kind_of reads = 3
kind_of (compares payload) = 4
kind_of (pairs payload new) = 5
kind_of (deallocates ranges) = 6

-- the data that the deed writes or compares with, or the numbers of its ranges
abbrev pub payload_of : Deed → List ℕ
payload_of (writes payload) = payload
payload_of zeroes = []
payload_of uncorrectable = []
payload_of reads = []
payload_of (compares payload) = payload
payload_of (pairs payload new) = payload
payload_of (deallocates ranges) = flat_map (λ r. r.first ∷ r.blocks ∷ []) ranges

-- the data that a pair writes
abbrev pub new_payload_of : Deed → List ℕ
new_payload_of (writes payload) = []
new_payload_of zeroes = []
new_payload_of uncorrectable = []
new_payload_of reads = []
new_payload_of (compares payload) = []
new_payload_of (pairs payload new) = new
new_payload_of (deallocates ranges) = []

abbrev pub same_deed : HistoryEntry → HistoryEntry → Bool
same_deed =
    eq_of_both (on (λ entry. kind_of entry.operation.deed) nat_eq)
    (eq_of_both (on (λ entry. payload_of entry.operation.deed) (pointwise nat_eq))
    (on (λ entry. new_payload_of entry.operation.deed) (pointwise nat_eq)))

abbrev pub same_range : HistoryEntry → HistoryEntry → Bool
same_range =
    eq_of_both (on (λ entry. entry.operation.first) nat_eq) (on (λ entry. entry.operation.blocks) nat_eq)

abbrev pub same_numbers : HistoryEntry → HistoryEntry → Bool
same_numbers = eq_of_both (on (λ entry. entry.pass) nat_eq) (on (λ entry. entry.job) nat_eq)

abbrev pub same_entry : HistoryEntry → HistoryEntry → Bool
same_entry = eq_of_both same_numbers (eq_of_both same_range same_deed)
