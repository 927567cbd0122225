use Rattle.std.proofs.Common.{◌≡◌, drop}
use Rattle.std.specs.List.{list_any, range_with_len}
use Rattle.nvm_record.specs.Ranges.{ranges_have, ranges_of}
use Rattle.nvm_explain.proofs.changes.have_one.Given as goal

-- a block lies in one of the ranges where one lies in one of those that are left
abbrev pub invariant-loop-place : goal.invariant-loop-place
invariant-loop-place l =
    list_any (λ lba. ranges_have (drop l.place (ranges_of l.payload)) lba) (range_with_len l.range.first l.range.blocks)
    ≡ list_any (λ lba. ranges_have (ranges_of l.payload) lba) (range_with_len l.range.first l.range.blocks)
