use Rattle.nvm_standard.specs.PointView.{seen_table}
use Rattle.nvm_standard.specs.Explanation.{IsPlacedRight}
use Rattle.nvm_standard.specs.OrderView.{seen_order}
use Rattle.nvm_standard.proofs.Eaches.{EachTo}
use Rattle.nvm_standard.proofs.fitting.misplaced.Given as goal

abbrev pub invariant-loop-position : goal.invariant-loop-position
invariant-loop-position l = EachTo (IsPlacedRight (seen_table l.points)) (seen_order l.order).placed l.position
