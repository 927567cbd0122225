use Rattle.std.proofs.Common.{ℕ, ◌<◌, ◌≤◌}
use Rattle.nvm_standard.specs.PointView.{seen_table}
use Rattle.nvm_standard.specs.Inside.Right.{StaysOut}
use Rattle.nvm_standard.specs.OrderView.{seen_order}
use Rattle.nvm_standard.proofs.tying.between.Given as goal

abbrev pub invariant-loop-position : goal.invariant-loop-position
invariant-loop-position l =
    (j : ℕ) → l.start ≤ j → j < l.position → StaysOut (seen_table l.points) (seen_order l.order) l.row.items l.first j
