-- Whether one of the ranges that data names has an LBA, range by range.
use Rattle.std.proofs.Common.{◌≡◌, ℕ, ◌+◌, ◌<◌, ◌≤◌, List, ◌||◌, false, ap, arith, drop, get_or, length, ◌∙◌}
use Rattle.std.proofs.lemmas.List.{at_drop_more, at_drop_all, get_or-map, length-map}
use Rattle.std.proofs.lemmas.List.FromFn.{get_or-range_with_len, length-range_with_len}
use Rattle.std.specs.List.{range_with_len}
use Rattle.nvm_record.specs.declared.lba_range.LbaRange.{LbaRange}
use Rattle.nvm_record.specs.Ranges.{range_at, range_count, range_has, ranges_have, ranges_of}

as_many : (payload : List ℕ) → length (ranges_of payload) ≡ range_count payload
as_many payload =
    length-map (range_with_len 0 (range_count payload)) (range_at payload) ∙ length-range_with_len 0 (range_count payload)

-- The first of the ranges that are left has the LBA, or one of those after it does.
pub next_range : (payload : List ℕ) (place lba : ℕ) → place < range_count payload
    → ranges_have (drop place (ranges_of payload)) lba
    ≡ (range_has (range_at payload place) lba || ranges_have (drop (place + 1) (ranges_of payload)) lba)
next_range payload place lba low =
    let numbers = range_with_len 0 (range_count payload) in
    let d = range_at payload place in
    let here : place < length (ranges_of payload) = omega (arith, low, as_many payload) in
    let under : place < length numbers = omega (arith, low, length-range_with_len 0 (range_count payload)) in
    let number : get_or numbers place 0 ≡ place = omega (arith, get_or-range_with_len 0 (range_count payload) place 0 low) in
    let is = get_or-map (range_at payload) numbers place 0 d under ∙ ap (range_at payload) number in
    at_drop_more (λ (rs : List LbaRange). ranges_have rs lba) (ranges_of payload) place d here
    ∙ ap (λ (r : LbaRange). range_has r lba || ranges_have (drop (place + 1) (ranges_of payload)) lba) is

-- After all ranges none is left.
pub no_range : (payload : List ℕ) (place lba : ℕ) → range_count payload ≤ place
    → ranges_have (drop place (ranges_of payload)) lba ≡ false
no_range payload place lba past =
    at_drop_all (λ (rs : List LbaRange). ranges_have rs lba) (ranges_of payload) place (omega (arith, past, as_many payload))
