use Rattle.std.proofs.Common.{map}
use Rattle.nvm_standard.specs.PointView.{seen_table}
use Rattle.nvm_standard.specs.Contents.{blocks_before}
use Rattle.nvm_standard.specs.Inside.Held.{Holds, FindsTo}
use Rattle.nvm_standard.specs.OrderView.{seen_content, seen_order}
use Rattle.nvm_standard.proofs.holding.finds_other.Given as goal

-- Up to here each position found what the blocks held, and they are those before this one.
abbrev pub invariant-loop-position : goal.invariant-loop-position
invariant-loop-position l =
    record {
      holds : Holds (seen_table l.points) (map seen_content l.held.items) (blocks_before (seen_table l.points) (seen_order l.order) l.position);
      found : FindsTo (seen_table l.points) (seen_order l.order) l.position;
    }
