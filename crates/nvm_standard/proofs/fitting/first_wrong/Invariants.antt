use Rattle.nvm_standard.specs.PointView.{seen_table}
use Rattle.nvm_standard.specs.Fits.{FitsFirst}
use Rattle.nvm_standard.specs.OrderView.{seen_order}
use Rattle.nvm_standard.proofs.Eaches.{EachTo}
use Rattle.nvm_standard.proofs.fitting.first_wrong.Given as goal

abbrev pub invariant-loop-place : goal.invariant-loop-place
invariant-loop-place l = EachTo (FitsFirst (seen_table l.points)) (seen_order l.order).first l.place
