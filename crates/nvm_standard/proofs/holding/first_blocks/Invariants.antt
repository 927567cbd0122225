use Rattle.std.proofs.Common.{map, take}
use Rattle.nvm_record.specs.Medium.{zero_medium}
use Rattle.nvm_standard.specs.PointView.{seen_table}
use Rattle.nvm_standard.specs.Contents.{with_first}
use Rattle.nvm_standard.specs.Inside.Held.{Holds}
use Rattle.nvm_standard.specs.OrderView.{seen_content, seen_order}
use Rattle.nvm_standard.proofs.holding.first_blocks.Given as goal

-- They are those after the first of what was said.
abbrev pub invariant-loop-place : goal.invariant-loop-place
invariant-loop-place l =
    Holds (seen_table l.points) (map seen_content l.held.items)
    (with_first (seen_table l.points).block_size (take l.place (seen_order l.order).first) (zero_medium (seen_table l.points).block_size))
