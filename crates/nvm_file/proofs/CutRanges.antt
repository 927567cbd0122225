-- The ranges of a Deallocate, one after the other.
use Rattle.std.proofs.Common.{◌≡◌, ℕ, ◌+◌, ◌*◌, ◌<◌, ◌≤◌, List, [], ◌∷◌, ◌++◌, length, take, refl, sym, ap, subst, ◌∙◌, append-nil, arith}
use Rattle.std.specs.List.{flat_map}
use Rattle.std.proofs.lemmas.List.{length-append}
use Rattle.std.proofs.lemmas.List.Concat.{flat_map-append, flat_map-cons}
use Rattle.std.proofs.lemmas.List.FromFn.{length-map-range_with_len, take-map-range_with_len, map-range_with_len_more}
use Rattle.byteorder.specs.Endian.{little_bytes}
use Rattle.nvm_record.specs.declared.lba_range.LbaRange.{LbaRange}
use Rattle.nvm_record.specs.Ranges.{data_of_ranges, most_ranges, range_at, range_bytes, range_count, range_length, ranges_of}
use Rattle.nvm_file.specs.EntrySpelling.{cut_bytes}

-- the bytes of one range more
pub next_range : (payload : List ℕ) (i : ℕ) → i < range_count payload
    → flat_map cut_bytes (take (i + 1) (ranges_of payload))
    ≡ flat_map cut_bytes (take i (ranges_of payload)) ++ cut_bytes (range_at payload i)
next_range payload i below =
    let at = range_at payload in
    let front = take i (ranges_of payload) in
    let one : take (i + 1) (ranges_of payload) ≡ front ++ at i ∷ [] =
    take-map-range_with_len at 0 (range_count payload) (i + 1) (omega (arith, below)) ∙ map-range_with_len_more at 0 i i (omega arith)
    ∙ ap (λ l. l ++ at i ∷ []) (sym (take-map-range_with_len at 0 (range_count payload) i (omega (arith, below)))) in
    ap (flat_map cut_bytes) one ∙ flat_map-append cut_bytes front (at i ∷ [])
    ∙ ap (λ l. flat_map cut_bytes front ++ l) (flat_map-cons cut_bytes (at i) [] ∙ append-nil (cut_bytes (at i)))

-- all of them
pub all_ranges : (payload : List ℕ) → take (range_count payload) (ranges_of payload) ≡ ranges_of payload
all_ranges payload = take-map-range_with_len (range_at payload) 0 (range_count payload) (range_count payload) (omega arith)

-- how many there are
pub count_of_ranges : (payload : List ℕ) → length (ranges_of payload) ≡ range_count payload
count_of_ranges payload = length-map-range_with_len (range_at payload) 0 (range_count payload)

-- how long their data is
pub length_of_ranges : (rs : List LbaRange) → length (data_of_ranges rs) ≡ length rs * range_length
length_of_ranges [] = refl
length_of_ranges (r ∷ rs) =
    let one : length (range_bytes r) ≡ 16 = refl in
    let more = length_of_ranges rs in
    ap length (flat_map-cons range_bytes r rs) ∙ omega (arith, length-append (range_bytes r) (data_of_ranges rs), one, more)

-- A slice with just these bytes is written as the ranges that the bytes hold.
pub ranges_of_slice : (slice payload : List ℕ) → slice ≡ payload
    → little_bytes 2 (range_count slice) ++ flat_map cut_bytes (ranges_of slice)
    ≡ little_bytes 2 (length (ranges_of payload)) ++ flat_map cut_bytes (ranges_of payload)
ranges_of_slice slice payload e =
    ap (λ n. little_bytes 2 n ++ flat_map cut_bytes (ranges_of slice)) (sym (count_of_ranges slice))
    ∙ ap (λ l. little_bytes 2 (length (ranges_of l)) ++ flat_map cut_bytes (ranges_of l)) e

-- and has no more of them
pub few_in_slice : (slice payload : List ℕ) → slice ≡ payload → length (ranges_of payload) ≤ most_ranges
    → range_count slice ≤ most_ranges
few_in_slice slice payload e few = subst (λ n. n ≤ most_ranges) (ap (λ l. length (ranges_of l)) (sym e) ∙ count_of_ranges slice) few
