use Rattle.std.proofs.Common.{◌≡◌, length, map}
use Rattle.nvm_record.specs.Medium.{Medium}
use Rattle.nvm_standard.specs.PointView.{seen, seen_table}
use Rattle.nvm_standard.specs.Inside.Held.{Holds, after_blocks}
use Rattle.nvm_standard.specs.OrderView.{seen_content, seen_placed}
use Rattle.nvm_standard.proofs.holding.put.Given as goal

-- The blocks before this one are put.
abbrev pub invariant-loop-block : goal.invariant-loop-block
invariant-loop-block l =
    record {
      holds : (m : Medium) → Holds (seen_table l.points) (map seen_content l.fn.held.items) m
          → Holds (seen_table l.points) (map seen_content l.held.items)
          (after_blocks (seen_table l.points).block_size (seen l.point) (seen_placed l.placed) l.block m);
      many : length l.held.items ≡ length l.fn.held.items;
    }
