use Rattle.std.proofs.Common.{◌≡◌, ℕ, length, map, sym, ap, subst, inl, ◌∙◌}
use Rattle.std.proofs.lemmas.Result.{IfOk-weaker}
use Rattle.nvm_geometry.specs.Boundaries.{units_of}
use Rattle.nvm_audit.specs.Recordable.{IsRecordable}
use Rattle.nvm_audit.specs.RecordView.{RecordView}
use Rattle.nvm_listing.specs.Inside.Named.{named_units}
use Rattle.nvm_listing.proofs.FirstOfAll.{first_of_all}
use Rattle.nvm_listing.proofs.finding.faults_after.Goals as goal

pub faults_of_units-requires-clause-shapes : goal.faults_of_units-requires-clause-shapes
faults_of_units-requires-clause-shapes c =
    c.faults_of_units_come_after_shapes.ensures.named c.args.record.now c.args.first
    (subst IsRecordable c.record.view_is c.record.invariant) (inl c.requires) (sym c.if-not-names_unit.ensures)

pub faults_of_units-requires-clause-named : goal.faults_of_units-requires-clause-named
faults_of_units-requires-clause-named c =
    let r = c.args.record.now in
    let held : IsRecordable r = subst IsRecordable c.record.view_is c.record.invariant in
    let count : c.from-units.result ≡ length r.units =
    c.from-units.ensures ∙ c.units.ensures.value ∙ ap (λ (x : RecordView). units_of x.namespace) c.record.view_is ∙ sym held.all_units in
    c.deref-2.ensures.value ∙ c.in_ok-named.ensures
    ∙ ap (λ done. named_units c.from-units.result (map (λ work. work.items) done)) c.deref.ensures.value
    ∙ ap (λ (x : RecordView). named_units c.from-units.result x.done) c.record.view_is
    ∙ ap (λ (n : ℕ). named_units n r.done) count

pub returns-clause-first : goal.returns-clause-first
returns-clause-first c =
    let r = c.args.record.now in
    let first = c.args.first in
    IfOk-weaker c.faults_of_units.result _ _
    (λ found all. first_of_all r first c.requires (sym c.if-not-names_unit.ensures) found.items all) c.faults_of_units.ensures
