-- The word that says the ranges of a Dataset Management.
use Rattle.std.specs.Prelude.{ℕ, nat_le, if◌then◌else◌, List, length, Option, Some, None, Result, Ok, Err}
use Rattle.std.specs.List.{before_first, after_first}
use Rattle.nvm_record.specs.Ranges.{most_ranges}
use Rattle.nvm_record.specs.declared.lba_range.LbaRange.{LbaRange}
use Rattle.nvm_list.specs.Words.{is}
use Rattle.nvm_list.specs.Numbers.{number}
use Rattle.nvm_list.specs.Commas.{read_parts}
use Rattle.nvm_list.specs.declared.expected.Expected.{Expected}
use Rattle.nvm_list.specs.declared.expected.Expected.TheVariants as expecting

abbrev pub range_from : Option ℕ → Option ℕ → Option LbaRange
range_from None blocks = None
range_from (Some first) None = None
range_from (Some first) (Some blocks) = Some (record { first = first; blocks = blocks })

-- an LBA below 2 ^ 64, `+` and a number of blocks below 2 ^ 32
abbrev pub read_range : List ℕ → Option LbaRange
read_range text =
    range_from (number 18446744073709551615 (before_first (is 43) text))
    (number 4294967295 (after_first (is 43) text))

-- no more ranges than a command has
abbrev pub few_ranges : Option (List LbaRange) → Result (List LbaRange) Expected
few_ranges None = Err expecting.Ranges
few_ranges (Some rs) = if nat_le (length rs) most_ranges then Ok rs else Err (expecting.RangeCount (length rs))

-- the ranges that commas part
abbrev pub ranges : List ℕ → Result (List LbaRange) Expected
ranges word = few_ranges (read_parts read_range word)
