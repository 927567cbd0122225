use Rattle.std.proofs.Common.{ℕ, ◌-◌, ◌<◌, ◌≤◌, map}
use Rattle.nvm_record.specs.Medium.{Medium}
use Rattle.nvm_standard.specs.PointView.{seen, seen_table}
use Rattle.nvm_standard.specs.Contents.{MayFind}
use Rattle.nvm_standard.specs.Inside.Held.{Holds}
use Rattle.nvm_standard.specs.OrderView.{seen_content}
use Rattle.nvm_standard.proofs.holding.finds.Given as goal

-- Each block before this one holds it.
abbrev pub invariant-loop-block : goal.invariant-loop-block
invariant-loop-block l =
    (m : Medium) → Holds (seen_table l.points) (map seen_content l.held.items) m
    → (x : ℕ) → l.placed.first ≤ x → x < l.block
    → MayFind (seen_table l.points).block_size (seen l.point).found (x - l.point.first) (m x)
