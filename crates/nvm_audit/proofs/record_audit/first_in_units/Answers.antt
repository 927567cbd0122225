use Rattle.std.proofs.Common.{◌≡◌, ℕ, ◌<◌, Option, length, map, IfOk, sym, ap, subst, ◌∙◌, arith}
use Rattle.std.proofs.lemmas.List.FromFn.{length-range_with_len}
use Rattle.std.proofs.lemmas.Slice.Zip.{AllZip-long}
use Rattle.std.specs.List.{range_with_len}
use Rattle.nvm_geometry.specs.Boundaries.{units_of}
use Rattle.nvm_audit.specs.declared.audit_fault.AuditFault.{AuditFault}
use Rattle.nvm_audit.specs.Inside.Grouped.{AreGrouped}
use Rattle.nvm_audit.specs.Inside.UnitSearch.{IsFoundIn}
use Rattle.nvm_audit.specs.Recordable.{IsRecordable}
use Rattle.nvm_audit.specs.RecordedPart.{parts_of_workers}
use Rattle.nvm_audit.specs.RecordView.{RecordView}
use Rattle.nvm_audit.specs.Shown.{shown_by}
use Rattle.nvm_audit.proofs.Places.{stands_read}
use Rattle.nvm_audit.proofs.UnitByUnit.{shapes_of, parts_inside, wrong_here, clean_here, clean_everywhere}
use Rattle.nvm_audit.proofs.UnitsFound.{found_at}
use Rattle.nvm_audit.proofs.record_audit.first_in_units.Goals as goal

pub parts_by_unit-requires-clause-inside : goal.parts_by_unit-requires-clause-inside
parts_by_unit-requires-clause-inside g c =
    parts_inside (shown_by c.record.inside) c.record.invariant c.from-units.result
    (omega (arith, c.units.ensures.value, c.from-units.ensures))

pub found_in_units-requires-clause-shapes : goal.found_in_units-requires-clause-shapes
found_in_units-requires-clause-shapes g c κs within =
    shapes_of c.args.record.now (subst IsRecordable c.record.view_is c.record.invariant) c.requires

pub found_in_units-requires-clause-parts : goal.found_in_units-requires-clause-parts
found_in_units-requires-clause-parts g c κs within =
    let r = c.args.record.now in
    let groups = map (λ group. group.items) c.in_ok-parts.parts.items in
    let held : IsRecordable r = subst IsRecordable c.record.view_is c.record.invariant in
    let count : c.units.result ≡ length r.units =
    c.units.ensures.value ∙ ap (λ (x : RecordView). units_of x.namespace) c.record.view_is ∙ sym held.all_units in
    let from : c.from-units.result ≡ length r.units = omega (arith, c.from-units.ensures, count) in
    subst (λ (n : ℕ). AreGrouped n (parts_of_workers 0 r.done) groups) from
    (subst (λ (x : RecordView). AreGrouped c.from-units.result (parts_of_workers 0 x.done) groups) c.record.view_is c.in_ok-parts.ensures)

pub returns-in-Some : goal.returns-in-Some
returns-in-Some g c =
    let r = c.args.record.now in
    let unit = c.loop-unit.unit in
    let found = c.in_ok-found.found.items in
    let held : IsRecordable r = subst IsRecordable c.record.view_is c.record.invariant in
    let long : length found ≡ length r.units =
    AllZip-long (λ n answer. IfOk answer (IsFoundIn r n)) (range_with_len 0 (length r.units)) found c.in_ok-found.ensures
    ∙ length-range_with_len 0 (length r.units) in
    let low : unit < length found = omega (arith, c.loop-unit-test.true, c.len-unit-end.ensures) in
    let here = found_at (λ n answer. IfOk answer (IsFoundIn r n)) (length r.units) found c.in_ok-found.ensures unit c.index.result.now
    (stands_read found unit c.index.result.now low c.index.ensures) in
    let told = subst (λ answer. IfOk answer (IsFoundIn r unit)) c.in_ok-fault.was here in
    wrong_here r held c.requires unit (omega (arith, low, long)) c.loop-unit.invariant c.in-Some.fault
    (subst (λ (answer : Option AuditFault). IsFoundIn r unit answer) c.in-Some.is told)

pub loop-unit-preserved : goal.loop-unit-preserved
loop-unit-preserved g c =
    let r = c.args.record.now in
    let unit = c.loop-unit.unit in
    let found = c.in_ok-found.found.items in
    let low : unit < length found = omega (arith, c.loop-unit-test.true, c.len-unit-end.ensures) in
    let here = found_at (λ n answer. IfOk answer (IsFoundIn r n)) (length r.units) found c.in_ok-found.ensures unit c.index.result.now
    (stands_read found unit c.index.result.now low c.index.ensures) in
    let told = subst (λ answer. IfOk answer (IsFoundIn r unit)) c.in_ok-fault.was here in
    clean_here r unit c.loop-unit.invariant (subst (λ (answer : Option AuditFault). IsFoundIn r unit answer) c.in-None.is told)

pub returns : goal.returns
returns g c =
    let r = c.args.record.now in
    let found = c.in_ok-found.found.items in
    let held : IsRecordable r = subst IsRecordable c.record.view_is c.record.invariant in
    let long : length found ≡ length r.units =
    AllZip-long (λ n answer. IfOk answer (IsFoundIn r n)) (range_with_len 0 (length r.units)) found c.in_ok-found.ensures
    ∙ length-range_with_len 0 (length r.units) in
    c.no_check_fails_for_lawful_records.ensures.lawful r held
    (clean_everywhere r held c.requires c.loop-unit.unit (omega (arith, long, c.loop-unit-test.false, c.len-unit-end.ensures))
    c.loop-unit.invariant)
