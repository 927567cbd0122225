use Rattle.std.proofs.Common.{◌≡◌, ◌<◌, List, Some, None, Bool, true, false, ap, get_or, length, subst, sym, ◌∙◌, arith}
use Rattle.nvm_geometry.specs.Boundaries.{units_of}
use Rattle.nvm_audit.specs.Recordable.{IsRecordable}
use Rattle.nvm_audit.specs.RecordView.{RecordView}
use Rattle.nvm_audit.proofs.Groups.{get_or_same}
use Rattle.nvm_listing.specs.AllFaults.{IsFoundInUnit}
use Rattle.nvm_listing.proofs.Naming.{long_named, none_named}
use Rattle.nvm_listing.proofs.UnitByUnit.{all_here, fault_here, none_here}
use Rattle.nvm_listing.proofs.unit_faults.faults_of_units.Goals as goal
use Rattle.nvm_listing.proofs.unit_faults.faults_of_units.Goals.{in-Some+in_ok-push-in-Some, in-None}

pub bounds-named-unit : goal.bounds-named-unit
bounds-named-unit c =
    let r = c.args.record.now in
    let held : IsRecordable r = subst IsRecordable c.record.view_is c.record.invariant in
    let count : c.units-unit-end.result ≡ length r.units =
    c.units-unit-end.ensures.value ∙ ap (λ (x : RecordView). units_of x.namespace) c.record.view_is ∙ sym held.all_units in
    let long : length c.args.named.now ≡ length r.units = ap length c.requires.named ∙ long_named (length r.units) r.done in
    omega (arith, count, long, c.loop-unit-test.true)

pub fault_of_unit-requires-clause-named : goal.fault_of_unit-requires-clause-named
fault_of_unit-requires-clause-named c = λ unmarked.
    let r = c.args.record.now in
    let unit = c.loop-unit.unit in
    let low : unit < length c.args.named.now = bounds-named-unit c in
    let here : get_or c.args.named.now unit true ≡ false = get_or_same c.args.named.now unit true false low ∙ unmarked in
    none_named (length r.units) r.done unit (subst (λ (named : List Bool). get_or named unit true ≡ false) c.requires.named here)

pub loop-unit-preserved : goal.loop-unit-preserved
loop-unit-preserved c =
    let r = c.args.record.now in
    let unit = c.loop-unit.unit in
    let faults = c.loop-unit.faults.items in
    let held : IsRecordable r = subst IsRecordable c.record.view_is c.record.invariant in
    let count : c.units-unit-end.result ≡ length r.units =
    c.units-unit-end.ensures.value ∙ ap (λ (x : RecordView). units_of x.namespace) c.record.view_is ∙ sym held.all_units in
    let low : unit < length r.units = omega (arith, count, c.loop-unit-test.true) in
    let found : IsFoundInUnit r unit c.in_ok-fault.field-0 = c.in_ok-fault.ensures in
    elim c.match-branch-2.branch [
      | in-Some+in_ok-push-in-Some w ↦
          let there : IsFoundInUnit r unit (Some w.in-Some.fault) = rw w.in-Some.is at found in
          let next = fault_here r unit faults w.in-Some.fault low c.loop-unit.invariant there in
          rw (w.faults-is, w.in_ok-push-in-Some.ensures.items) next
      | in-None w ↦
          let there : IsFoundInUnit r unit None = rw w.in-None.is at found in
          rw w.faults-is (none_here r unit faults low c.loop-unit.invariant there)
    ]

pub returns : goal.returns
returns c =
    let r = c.args.record.now in
    let held : IsRecordable r = subst IsRecordable c.record.view_is c.record.invariant in
    let count : c.units-unit-end.result ≡ length r.units =
    c.units-unit-end.ensures.value ∙ ap (λ (x : RecordView). units_of x.namespace) c.record.view_is ∙ sym held.all_units in
    all_here r c.loop-unit.unit c.loop-unit.faults.items (omega (arith, count, c.loop-unit-test.false)) c.loop-unit.invariant
