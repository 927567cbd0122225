use Rattle.std.proofs.Common.{◌≡◌, ◌<◌, List, [], length, map, refl, vec_len, sym, ap, subst, ◌∙◌, arith}
use Rattle.std.proofs.lemmas.Bool.{eqb-true}
use Rattle.std.proofs.lemmas.List.{length-map, nil_from_length}
use Rattle.nvm_record.specs.Lists.{IsAt}
use Rattle.nvm_store.specs.HistoryEntry.{HistoryEntry}
use Rattle.nvm_audit.specs.RecordView.{RecordView}
use Rattle.nvm_audit.specs.UnitChecks.{HasNoUnitFault}
use Rattle.nvm_audit.specs.UnitView.{view_of_unit}
use Rattle.nvm_audit.proofs.Counting.{item_in_map}
use Rattle.nvm_audit.proofs.Standing.{one_there}
use Rattle.nvm_listing.proofs.UnitByUnit.{none_in_unused}
use Rattle.nvm_listing.proofs.unit_faults.fault_of_unit.Goals as goal

pub returns-then-is_empty : goal.returns-then-is_empty
returns-then-is_empty c = λ history at.
    let r = c.args.record.now in
    let unit = c.args.unit in
    let read = c.index.result.now in
    let many : length c.record.inside.units.items ≡ length r.units =
    sym (length-map c.record.inside.units.items (λ entries. entries.items)) ∙ ap (λ (x : RecordView). length x.units) c.record.view_is in
    let low : unit < length c.record.inside.units.items = omega (arith, many, c.requires.there) in
    let shown : IsAt (map (λ entries. entries.items) c.record.inside.units.items) unit read.items =
    item_in_map (λ entries. entries.items) c.record.inside.units.items c.record.inside.units.items unit read refl low c.index.ensures in
    let its : IsAt r.units unit read.items = subst (λ (x : RecordView). IsAt x.units unit read.items) c.record.view_is shown in
    let zero : length read.items ≡ 0 = omega (arith, eqb-true (vec_len read) 0 (sym c.is_empty.ensures ∙ c.if-is_empty.true)) in
    let none : history ≡ [] = one_there r.units unit history read.items at its ∙ nil_from_length read.items zero in
    subst (λ (entries : List HistoryEntry). HasNoUnitFault (view_of_unit r unit entries)) (sym none)
    (none_in_unused r unit (c.requires.named c.if-not-is_named.true))
