use Rattle.std.proofs.Common.{◌≡◌, map, take}
use Rattle.nvm_trace.specs.Inside.Table.{empty_row}
use Rattle.nvm_trace.proofs.table.empty_rows.Given as goal

abbrev pub invariant-loop-unit : goal.invariant-loop-unit
invariant-loop-unit l = map (λ row. row.items) l.rows.items ≡ map empty_row (take l.unit (map (λ history. history.items) l.units.items))
