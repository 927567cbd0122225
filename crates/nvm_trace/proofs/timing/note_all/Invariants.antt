use Rattle.std.proofs.Common.{All, map, take}
use Rattle.nvm_trace.specs.Inside.Latest.{HasRoom, HasEachLevel}
use Rattle.nvm_trace.proofs.timing.note_all.Given as goal

abbrev pub invariant-loop-step : goal.invariant-loop-step
invariant-loop-step l = record {
  room : All (HasRoom (map (λ row. row.items) l.rows.items)) l.steps.items;
  noted : HasEachLevel (take l.step-index l.steps.items) (map (λ row. row.items) l.rows.items);
}
