use Rattle.std.proofs.Common.{◌≡◌, ℕ, List, Some, length, map, slice_get}
use Rattle.nvm_standard.specs.PointView.{PointView, seen_table}
use Rattle.nvm_standard.specs.Inside.Done.{IsRowOf}
use Rattle.nvm_standard.specs.OrderView.{OrderView}
use Rattle.nvm_standard.proofs.done_rows.empty_rows.Given as goal

abbrev pub invariant-loop-number : goal.invariant-loop-number
invariant-loop-number l =
    record {
      many : length l.rows.items ≡ l.number;
      each : (o : OrderView) (n : ℕ) (q : PointView) (row : List ℕ) → slice_get (seen_table l.points).points n ≡ Some q
          → slice_get (map (λ row. row.items) l.rows.items) n ≡ Some row → IsRowOf o 0 n q row;
    }
