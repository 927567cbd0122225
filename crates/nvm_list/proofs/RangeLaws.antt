-- What nvm_record's laws say of ranges.
use Rattle.std.proofs.Common.{◌≡◌, ℕ, ◌<◌, List, All}
use Rattle.nvm_record.specs.Ranges.{FitsItsBytes, ranges_of, data_of_ranges}
use Rattle.nvm_record.specs.declared.lba_range.LbaRange.{LbaRange}

-- the ranges that bytes say fit
abbrev pub RangesFit : Type 0
RangesFit = (payload : List ℕ) → All (λ b. b < 256) payload → All FitsItsBytes (ranges_of payload)

-- ranges that fit are those that their data says
abbrev pub RangesAreReadBack : Type 0
RangesAreReadBack = (rs : List LbaRange) → All FitsItsBytes rs → ranges_of (data_of_ranges rs) ≡ rs
