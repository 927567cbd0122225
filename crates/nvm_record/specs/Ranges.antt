-- Ranges of LBAs, and the data of a Dataset Management, which names up to 256 of them: NVM Command Set Specification,
-- "Dataset Management command", its range definition of 16 bytes. The context attributes, a range's first four bytes,
-- aren't read.
use Rattle.std.specs.Prelude.{◌≢◌, ℕ, ◌+◌, ◌*◌, ◌-◌, ◌/◌, ◌^◌, ◌<◌, ◌≤◌, nat_le, nat_lt, min, max, List, [], ◌∷◌, ◌++◌, length, drop, map, filter, replicate, Bool, false, ◌&&◌, ◌||◌}
use Rattle.std.specs.List.{All, flat_map, range_with_len}
use Rattle.byteorder.specs.Endian.{little_number, little_bytes}
use Rattle.nvm_record.specs.declared.lba_range.LbaRange.{LbaRange}

-- the LBA lies in the range
abbrev pub range_has : LbaRange → ℕ → Bool
range_has r lba = nat_le r.first lba && nat_lt lba (r.first + r.blocks)

-- the LBA lies in one of the ranges
abbrev pub ranges_have : List LbaRange → ℕ → Bool
ranges_have [] lba = false
ranges_have (r ∷ rs) lba = range_has r lba || ranges_have rs lba

-- those LBAs of the range that are among the `blocks` from `first`
abbrev pub cut_range : ℕ → ℕ → LbaRange → LbaRange
cut_range first blocks r =
    record { first = max first r.first; blocks = min (first + blocks) (r.first + r.blocks) - max first r.first }

-- the ranges, each cut to the `blocks` LBAs from `first`, in their order, without those of which no block is left
abbrev pub cut_ranges : ℕ → ℕ → List LbaRange → List LbaRange
cut_ranges first blocks rs = filter (λ r. nat_lt 0 r.blocks) (map (cut_range first blocks) rs)

-- There is a range, and each has a block and lies among the `blocks` LBAs from `first`.
pub record AreRangesWithin (first blocks : ℕ) (rs : List LbaRange) : Type 0 where
  pub some : rs ≢ []
  pub each : All (λ r. (0 < r.blocks) × (first ≤ r.first) × (r.first + r.blocks ≤ first + blocks)) rs

-- the most ranges of a command
abbrev pub most_ranges : ℕ
most_ranges = 256

-- how many bytes of data a range has
abbrev pub range_length : ℕ
range_length = 16

-- the range at place i of the data: its length in blocks, and its starting LBA
abbrev pub range_at : List ℕ → ℕ → LbaRange
range_at payload i =
    record {
      first = little_number 8 (drop (i * range_length + 8) payload);
      blocks = little_number 4 (drop (i * range_length + 4) payload);
    }

-- how many ranges the data holds
abbrev pub range_count : List ℕ → ℕ
range_count payload = length payload / range_length

-- the ranges that the data holds, in their order
abbrev pub ranges_of : List ℕ → List LbaRange
ranges_of payload = map (range_at payload) (range_with_len 0 (range_count payload))

-- Each field of the range fits its place in the data, as its type says.
abbrev pub FitsItsBytes : LbaRange → Type 0
FitsItsBytes r = (r.first < 2 ^ 64) × (r.blocks < 2 ^ 32)

-- the bytes of a range, with context attributes of 0
abbrev pub range_bytes : LbaRange → List ℕ
range_bytes r = replicate 4 0 ++ (little_bytes 4 r.blocks ++ little_bytes 8 r.first)

-- the data of these ranges
abbrev pub data_of_ranges : List LbaRange → List ℕ
data_of_ranges rs = flat_map range_bytes rs
