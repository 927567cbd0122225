use Rattle.std.proofs.Common.{◌≡◌, ℕ, ◌<◌, Some, slice_get}
use Rattle.nvm_standard.specs.PointView.{PointView, seen_table}
use Rattle.nvm_standard.specs.Inside.Right.{KeepsTiedOne}
use Rattle.nvm_standard.specs.OrderView.{seen_order}
use Rattle.nvm_standard.specs.Presence.{IsPresent}
use Rattle.nvm_standard.proofs.checking.check_points.Given as goal

abbrev pub invariant-loop-number : goal.invariant-loop-number
invariant-loop-number l =
    record {
      present : (n : ℕ) (q : PointView) → n < l.number → slice_get (seen_table l.points).points n ≡ Some q → IsPresent (seen_order l.order) n q;
      tied : (n : ℕ) → n < l.number → KeepsTiedOne (seen_table l.points) (seen_order l.order) n;
    }
