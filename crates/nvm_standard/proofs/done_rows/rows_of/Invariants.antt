use Rattle.std.proofs.Common.{map}
use Rattle.nvm_standard.specs.PointView.{seen_table}
use Rattle.nvm_standard.specs.Inside.Done.{AreRows}
use Rattle.nvm_standard.specs.OrderView.{seen_order}
use Rattle.nvm_standard.proofs.done_rows.rows_of.Given as goal

abbrev pub invariant-loop-position : goal.invariant-loop-position
invariant-loop-position l = AreRows (seen_table l.points) (seen_order l.order) l.position (map (λ row. row.items) l.rows.items)
