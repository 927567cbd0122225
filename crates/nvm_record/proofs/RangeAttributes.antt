-- Ranges whose context attributes are 0, one after the other.
use Rattle.std.proofs.Common.{◌≡◌, ℕ, ◌+◌, ◌<◌, ◌≤◌, List, [], ◌∷◌, ◌++◌, length, get_or, take, drop, sym, ap, ◌∙◌, arith, append_assoc}
use Rattle.std.proofs.lemmas.List.{append-nil, append_cancel_left, flat_map_more, take_more, take_all, take-append-drop}
use Rattle.std.proofs.lemmas.Grind.{flat_map-append}
use Rattle.std.proofs.Math.Seq.{take-append_seam}
use Rattle.nvm_record.specs.Ranges.{range_at, range_bytes, range_count, ranges_of, data_of_ranges}
use Rattle.nvm_record.specs.declared.lba_range.LbaRange.{LbaRange}
use Rattle.nvm_record.proofs.RangesReadBack.{length-ranges_of, get_or-ranges_of}

-- one range more
pub data_more : (payload : List ℕ) (i : ℕ) (r : LbaRange) → i < range_count payload → r ≡ range_at payload i
    → data_of_ranges (take i (ranges_of payload)) ++ range_bytes r ≡ data_of_ranges (take (i + 1) (ranges_of payload))
data_more payload i r here is =
    let rs : List LbaRange = ranges_of payload in
    let at : get_or rs i r ≡ r = get_or-ranges_of payload i r here ∙ sym is in
    let inside : i < length rs = omega (arith, length-ranges_of payload) in
    flat_map_more range_bytes [] (take i rs) r
    ∙ ap (λ (x : LbaRange). data_of_ranges (take i rs ++ x ∷ [])) (sym at)
    ∙ ap data_of_ranges (sym (take_more rs i r inside))

pub front_more : (payload rest after : List ℕ) (i : ℕ) (r : LbaRange) → i < range_count payload → r ≡ range_at payload i → rest ≡ range_bytes r ++ after
    → payload ≡ data_of_ranges (take i (ranges_of payload)) ++ rest → payload ≡ data_of_ranges (take (i + 1) (ranges_of payload)) ++ after
front_more payload rest after i r here is e front =
    let rs : List LbaRange = ranges_of payload in
    front ∙ ap (λ (x : List ℕ). data_of_ranges (take i rs) ++ x) e
    ∙ sym (append_assoc (data_of_ranges (take i rs)) (range_bytes r) after)
    ∙ ap (λ (x : List ℕ). x ++ after) (data_more payload i r here is)

-- data that is that of its ranges goes on with the next range
pub next_is : (payload rest : List ℕ) (i : ℕ) (r : LbaRange) → i < range_count payload → r ≡ range_at payload i
    → payload ≡ data_of_ranges (take i (ranges_of payload)) ++ rest → payload ≡ data_of_ranges (ranges_of payload) → take 16 rest ≡ range_bytes r
next_is payload rest i r here is front all =
    let rs : List LbaRange = ranges_of payload in
    let tail : List ℕ = data_of_ranges (drop (i + 1) rs) in
    let seam : data_of_ranges rs ≡ data_of_ranges (take (i + 1) rs) ++ tail =
    ap data_of_ranges (sym (take-append-drop (i + 1) rs)) ∙ flat_map-append range_bytes (take (i + 1) rs) (drop (i + 1) rs) in
    let split : data_of_ranges (take i rs) ++ rest ≡ data_of_ranges (take i rs) ++ (range_bytes r ++ tail) =
    sym front ∙ all ∙ seam ∙ ap (λ (x : List ℕ). x ++ tail) (sym (data_more payload i r here is))
    ∙ append_assoc (data_of_ranges (take i rs)) (range_bytes r) tail in
    ap (take 16) (append_cancel_left (data_of_ranges (take i rs)) rest (range_bytes r ++ tail) split)
    ∙ take-append_seam (range_bytes r) tail

-- after the last range
pub all_taken : (payload : List ℕ) (i : ℕ) → range_count payload ≤ i → take i (ranges_of payload) ≡ ranges_of payload
all_taken payload i le = take_all i (ranges_of payload) (omega (arith, length-ranges_of payload))

pub nothing_left : (payload rest : List ℕ) (i : ℕ) → range_count payload ≤ i → payload ≡ data_of_ranges (take i (ranges_of payload)) ++ rest → rest ≡ []
    → payload ≡ data_of_ranges (ranges_of payload)
nothing_left payload rest i le front e =
    front ∙ ap (λ (x : List ℕ). data_of_ranges (take i (ranges_of payload)) ++ x) e
    ∙ append-nil (data_of_ranges (take i (ranges_of payload))) ∙ ap data_of_ranges (all_taken payload i le)

pub nothing_more : (payload rest : List ℕ) (i : ℕ) → range_count payload ≤ i → payload ≡ data_of_ranges (take i (ranges_of payload)) ++ rest
    → payload ≡ data_of_ranges (ranges_of payload) → rest ≡ []
nothing_more payload rest i le front all =
    let same : data_of_ranges (ranges_of payload) ++ rest ≡ data_of_ranges (ranges_of payload) ++ [] =
    ap (λ (rs : List LbaRange). data_of_ranges rs ++ rest) (sym (all_taken payload i le)) ∙ sym front ∙ all
    ∙ sym (append-nil (data_of_ranges (ranges_of payload))) in
    append_cancel_left (data_of_ranges (ranges_of payload)) rest [] same
