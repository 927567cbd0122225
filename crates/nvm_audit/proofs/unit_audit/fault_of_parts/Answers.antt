use Rattle.std.proofs.Common.{◌≡◌, ◌<◌, List, length, sym, subst}
use Rattle.std.proofs.lemmas.Result.{IfOk-weaker}
use Rattle.nvm_store.specs.HistoryEntry.{HistoryEntry}
use Rattle.nvm_audit.specs.UnitView.{view_of_unit}
use Rattle.nvm_record.specs.Lists.{IsAt}
use Rattle.nvm_audit.specs.LawfulRecord.{HaveShapes}
use Rattle.nvm_audit.specs.RecordedPart.{parts_in_unit}
use Rattle.nvm_audit.specs.RecordView.{RecordView}
use Rattle.nvm_audit.specs.Shown.{shown_by}
use Rattle.nvm_audit.proofs.ShownParts.{unit_with, stands_within, known_with, IsToldOf, told_with}
use Rattle.nvm_audit.proofs.unit_audit.fault_of_parts.Goals as goal

pub fault_shown-requires : goal.fault_shown-requires
fault_shown-requires c =
    let shown = shown_by c.record.inside in
    let same : shown ≡ c.args.record.now = c.record.view_is in
    let low = subst (λ (r : RecordView). c.args.unit < length r.units) (sym same) c.requires.there in
    let at = stands_within (λ history. history.items) c.record.inside.units.items c.args.unit c.index.result.now low c.index.ensures in
    let shapes = subst HaveShapes (sym same) c.requires.shapes in
    let parts = subst (λ (r : RecordView). c.args.parts.now.items ≡ parts_in_unit c.args.unit r.done) (sym same) c.requires.parts in
    known_with shown c.args.unit c.index.result.now.items c.args.parts.now.items
    (c.known_units.ensures shown c.args.unit c.index.result.now.items c.record.invariant shapes at) parts

pub returns : goal.returns
returns c =
    let shown = shown_by c.record.inside in
    let same : shown ≡ c.args.record.now = c.record.view_is in
    let low = subst (λ (r : RecordView). c.args.unit < length r.units) (sym same) c.requires.there in
    let at = stands_within (λ history. history.items) c.record.inside.units.items c.args.unit c.index.result.now low c.index.ensures in
    IfOk-weaker c.fault_shown.result
    (λ found. IsToldOf found (unit_with shown c.args.unit c.index.result.now.items c.args.parts.now.items))
    (λ found. (other : List HistoryEntry) → IsAt c.args.record.now.units c.args.unit other
    → IsToldOf found (view_of_unit c.args.record.now c.args.unit other))
    (told_with shown c.args.record.now same c.args.unit c.index.result.now.items c.args.parts.now.items c.requires.parts at)
    c.fault_shown.ensures
