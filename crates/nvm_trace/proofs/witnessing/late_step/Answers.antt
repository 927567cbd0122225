use Rattle.std.proofs.Common.{map, refl, sym, subst, All}
use Rattle.nvm_audit.specs.RecordView.{RecordView}
use Rattle.nvm_audit.specs.Shown.{shown_by}
use Rattle.nvm_trace.specs.Inside.Table.{HasPlace}
use Rattle.nvm_trace.proofs.Rooms.{few_in_each, room_of_places, none_yet}
use Rattle.nvm_trace.proofs.witnessing.late_step.Goals as goal

pub empty_rows-requires : goal.empty_rows-requires
empty_rows-requires c = few_in_each (λ history. history.items) (shown_by c.record.inside) c.record.inside.units.items c.record.invariant refl

pub first_late-requires-clause-room : goal.first_late-requires-clause-room
first_late-requires-clause-room c =
    let units = map (λ history. history.items) c.record.inside.units.items in
    room_of_places units (map (λ row. row.items) c.in_ok-rows.rows.items) c.args.steps.now.items c.in_ok-rows.ensures
    (subst (λ (r : RecordView). All (HasPlace r.units) c.args.steps.now.items) (sym c.record.view_is) c.requires)

pub first_late-requires-clause-none : goal.first_late-requires-clause-none
first_late-requires-clause-none c =
    none_yet (map (λ history. history.items) c.record.inside.units.items) (map (λ row. row.items) c.in_ok-rows.rows.items) c.in_ok-rows.ensures
