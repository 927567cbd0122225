use Rattle.std.proofs.Common.{◌≡◌, ◌<◌, ◌≤◌, None, length, rules, subst}
use Rattle.std.specs.Prelude.{slice_get}
use Rattle.nvm_audit.specs.RecordView.{RecordView}
use Rattle.nvm_audit.specs.Shown.{shown_by}
use Rattle.nvm_explain.specs.UnitAt.{AreCoveredIn}
use Rattle.nvm_explain.proofs.Covering.{held_entries, none_shown, stands_shown}
use Rattle.nvm_explain.proofs.looked_up.entries_of.Goals as goal

pub returns-in-Some-clause-covered : goal.returns-in-Some-clause-covered
returns-in-Some-clause-covered c =
    let shown = shown_by c.run.inside in
    let history = c.in-Some.history.now in
    let low : c.args.unit < length c.run.inside.units.items = search rules in
    let read = rw c.deref.ensures.value at c.in-Some.ensures.lookup.1 in
    let at = stands_shown (λ h. h.items) c.run.inside.units.items c.args.unit history low read in
    let recorded = c.run.invariant.units c.args.unit _ at in
    let held = held_entries c.each_unit_has_one_place.ensures.one shown c.args.unit history.items recorded in
    subst (λ (r : RecordView). AreCoveredIn r.namespace c.args.unit c.as_slice.result.now) c.run.view_is
    (rw c.as_slice.ensures.value held)

pub returns-in-None-clause-is : goal.returns-in-None-clause-is
returns-in-None-clause-is c =
    let past : length c.run.inside.units.items ≤ c.args.unit = search rules in
    subst (λ (r : RecordView). None ≡ slice_get r.units c.args.unit) c.run.view_is
    (none_shown (λ h. h.items) c.run.inside.units.items c.args.unit past)
