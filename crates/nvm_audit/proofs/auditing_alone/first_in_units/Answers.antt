use Rattle.std.proofs.Common.{◌≡◌, ℕ, ◌<◌, Option, length, map, sym, ap, subst, ◌∙◌, arith}
use Rattle.nvm_geometry.specs.Boundaries.{units_of}
use Rattle.nvm_audit.specs.declared.audit_fault.AuditFault.{AuditFault}
use Rattle.nvm_audit.specs.Inside.Grouped.{AreGrouped}
use Rattle.nvm_audit.specs.Inside.UnitSearch.{IsFoundIn}
use Rattle.nvm_audit.specs.Recordable.{IsRecordable}
use Rattle.nvm_audit.specs.RecordedPart.{parts_of_workers}
use Rattle.nvm_audit.specs.RecordView.{RecordView}
use Rattle.nvm_audit.specs.Shown.{shown_by}
use Rattle.nvm_audit.proofs.Groups.{group_is}
use Rattle.nvm_audit.proofs.UnitByUnit.{shapes_of, parts_inside, wrong_here, clean_here, clean_everywhere}
use Rattle.nvm_audit.proofs.auditing_alone.first_in_units.Goals as goal

pub parts_by_unit-requires-clause-inside : goal.parts_by_unit-requires-clause-inside
parts_by_unit-requires-clause-inside c =
    parts_inside (shown_by c.record.inside) c.record.invariant c.from.result
    (omega (arith, c.units-units.ensures.value, c.from.ensures))

pub fault_of_parts-requires-clause-shapes : goal.fault_of_parts-requires-clause-shapes
fault_of_parts-requires-clause-shapes c =
    shapes_of c.args.record.now (subst IsRecordable c.record.view_is c.record.invariant) c.requires

pub fault_of_parts-requires-clause-parts : goal.fault_of_parts-requires-clause-parts
fault_of_parts-requires-clause-parts c =
    let r = c.args.record.now in
    let unit = c.loop-unit.unit in
    let groups = map (λ group. group.items) c.in_ok-parts.parts.items in
    let held : IsRecordable r = subst IsRecordable c.record.view_is c.record.invariant in
    let count : c.units-units.result ≡ length r.units =
    c.units-units.ensures.value ∙ ap (λ (x : RecordView). units_of x.namespace) c.record.view_is ∙ sym held.all_units in
    let from : c.from.result ≡ length r.units = omega (arith, c.from.ensures, count) in
    let there : unit < length r.units = omega (arith, c.loop-unit-test.true, count) in
    let grouped = subst (λ (n : ℕ). AreGrouped n (parts_of_workers 0 r.done) groups) from
    (subst (λ (x : RecordView). AreGrouped c.from.result (parts_of_workers 0 x.done) groups) c.record.view_is c.in_ok-parts.ensures) in
    group_is (λ group. group.items) (length r.units) (parts_of_workers 0 r.done) c.in_ok-parts.parts.items unit
    c.index.result.now c.index.result.now grouped there c.index.ensures

pub returns-in-Some : goal.returns-in-Some
returns-in-Some c =
    let r = c.args.record.now in
    let unit = c.loop-unit.unit in
    let held : IsRecordable r = subst IsRecordable c.record.view_is c.record.invariant in
    let count : c.units-units.result ≡ length r.units =
    c.units-units.ensures.value ∙ ap (λ (x : RecordView). units_of x.namespace) c.record.view_is ∙ sym held.all_units in
    let there : unit < length r.units = omega (arith, c.loop-unit-test.true, count) in
    wrong_here r held c.requires unit there c.loop-unit.invariant c.in-Some.fault
    (subst (λ (answer : Option AuditFault). IsFoundIn r unit answer) c.in-Some.is c.in_ok-fault.ensures)

pub loop-unit-preserved : goal.loop-unit-preserved
loop-unit-preserved c =
    let r = c.args.record.now in
    let unit = c.loop-unit.unit in
    clean_here r unit c.loop-unit.invariant
    (subst (λ (answer : Option AuditFault). IsFoundIn r unit answer) c.in-None.is c.in_ok-fault.ensures)

pub returns : goal.returns
returns c =
    let r = c.args.record.now in
    let held : IsRecordable r = subst IsRecordable c.record.view_is c.record.invariant in
    let count : c.units-units.result ≡ length r.units =
    c.units-units.ensures.value ∙ ap (λ (x : RecordView). units_of x.namespace) c.record.view_is ∙ sym held.all_units in
    c.no_check_fails_for_lawful_records.ensures.lawful r held
    (clean_everywhere r held c.requires c.loop-unit.unit (omega (arith, count, c.loop-unit-test.false)) c.loop-unit.invariant)
