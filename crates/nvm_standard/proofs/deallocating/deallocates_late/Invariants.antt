use Rattle.nvm_standard.specs.PointView.{seen_table}
use Rattle.nvm_standard.specs.Inside.Latest.{AreLatest, AreLeast, KeepsDeallocatesTo}
use Rattle.nvm_standard.specs.OrderView.{seen_order}
use Rattle.nvm_standard.proofs.deallocating.deallocates_late.Given as goal

abbrev pub invariant-loop-position : goal.invariant-loop-position
invariant-loop-position l =
    record {
      latest_are : AreLatest (seen_table l.points) (seen_order l.order) l.position l.latest.items;
      least : AreLeast (seen_table l.points) (seen_order l.order) l.position l.latest.items;
      kept : KeepsDeallocatesTo (seen_table l.points) (seen_order l.order) l.position;
    }
