-- The data of ranges that are cut, one range after the other.
use Rattle.std.proofs.Common.{◌≡◌, ◌↔◌, ℕ, ◌+◌, ◌<◌, List, ◌∷◌, ◌++◌, length, get_or, drop, sym, ap, ◌∙◌, arith}
use Rattle.std.proofs.lemmas.Bool.Decides.{nat_tests}
use Rattle.std.proofs.lemmas.List.{drop_more, append_cancel_left}
use Rattle.nvm_record.specs.declared.lba_range.LbaRange.{LbaRange}
use Rattle.nvm_record.specs.Ranges.{cut_range, cut_ranges, data_of_ranges, range_at, range_bytes, range_count, ranges_of}

-- From each place on, the ranges that the data holds are the one there, and those after it.
pub ranges_from : (payload : List ℕ) (i : ℕ) → length (ranges_of payload) ≡ range_count payload
    → ((d : LbaRange) → i < range_count payload → get_or (ranges_of payload) i d ≡ range_at payload i) → i < range_count payload
    → drop i (ranges_of payload) ≡ range_at payload i ∷ drop (i + 1) (ranges_of payload)
ranges_from payload i count place below =
    let d : LbaRange = range_at payload i in
    let inside : i < length (ranges_of payload) = rw count below in
    drop_more (ranges_of payload) i d inside ∙ ap (λ (r : LbaRange). r ∷ drop (i + 1) (ranges_of payload)) (place d below)

abbrev left_data : ℕ → ℕ → List LbaRange → List ℕ
left_data first blocks rs = data_of_ranges (cut_ranges first blocks rs)

kept : (first blocks : ℕ) (r : LbaRange) (rs : List LbaRange) → 0 < (cut_range first blocks r).blocks
    → cut_ranges first blocks (r ∷ rs) ≡ cut_range first blocks r ∷ cut_ranges first blocks rs
kept first blocks r rs some = grind (arith, nat_tests)

dropped : (first blocks : ℕ) (r : LbaRange) (rs : List LbaRange) → (0 < (cut_range first blocks r).blocks → ⊥)
    → cut_ranges first blocks (r ∷ rs) ≡ cut_ranges first blocks rs
dropped first blocks r rs empty = grind (arith, nat_tests)

module _ (first blocks : ℕ) (r : LbaRange) (all rs : List LbaRange) (from : all ≡ r ∷ rs) where
  -- A range of which a block is left comes first in the data.
  pub data_kept : 0 < (cut_range first blocks r).blocks
      → data_of_ranges (cut_ranges first blocks all) ≡ range_bytes (cut_range first blocks r) ++ data_of_ranges (cut_ranges first blocks rs)
  data_kept some = ap (left_data first blocks) from ∙ ap data_of_ranges (kept first blocks r rs some)

  -- Of one of which no block is left there is no data.
  pub data_dropped : (0 < (cut_range first blocks r).blocks → ⊥)
      → data_of_ranges (cut_ranges first blocks all) ≡ data_of_ranges (cut_ranges first blocks rs)
  data_dropped empty = ap (left_data first blocks) from ∙ ap data_of_ranges (dropped first blocks r rs empty)

-- Data that goes on so is the same where what follows is.
pub goes_on : (rest front after left more : List ℕ) → rest ≡ front ++ after → left ≡ front ++ more → (rest ≡ left) ↔ (after ≡ more)
goes_on rest front after left more is goes = (
  (λ same. append_cancel_left front after more (sym is ∙ same ∙ goes)),
  (λ same. is ∙ ap (λ (x : List ℕ). front ++ x) same ∙ sym goes),
)
