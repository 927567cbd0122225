use Rattle.std.proofs.Common.{◌≡◌, List, ap, sym, subst, Ok, Err, Result, IfOk, ◌∙◌, ℕ, set, rules}
use Rattle.nvm_record.specs.Lists.{IsAt}
use Rattle.nvm_store.specs.HistoryEntry.{HistoryEntry}
use Rattle.nvm_unit.specs.Passes.{PassState}
use Rattle.nvm_unit.specs.declared.views.PassView.{PassView}
use Rattle.nvm_unit.specs.Ends.{views_of}
use Rattle.nvm_unit.specs.Replies.{IsBroughtUp}
use Rattle.nvm_geometry.specs.Large.{regions_of}
use Rattle.nvm_space.specs.Ports.{PortState, ArePassesOfAll}
use Rattle.nvm_space.specs.Spaces.{SpaceName, IsLaidOut}
use Rattle.nvm_space.proofs.Meetings.{of_unit, still_all, becomes, after_there}
use Rattle.nvm_space.proofs.space.Space.history.Goals as goal

-- What was copied is what the pass has seen.
seen_so : {V E : Type 0} (items : V → List HistoryEntry) (result : Result V E) (after : PassState) (views : List PassView) (k : ℕ) → ((p : PassView) → IsAt views k p → p ≡ after.view)
    → IfOk result (λ v. items v ≡ after.view.seen) → IfOk result (λ v. (p : PassView) → IsAt views k p → items v ≡ p.seen)
seen_so items (Ok v) after views k here is = λ p at. is ∙ ap (λ (x : PassView). x.seen) (sym (here p at))
seen_so items (Err e) after views k here is = tt

pub history-requires : goal.history-requires
history-requires g c =
    let laid = subst IsLaidOut c.self.view_is c.self.invariant.0 in
    let units = ap (λ (s : SpaceName). s.units) c.self.view_is in
    let all = subst (λ (p : PortState). ArePassesOfAll c.args.self.now.units p.number p.passes) (sym c.port.view_is) c.requires.of in
    of_unit (regions_of c.args.self.now.namespace) c.args.self.now.units c.self.inside.units.items c.port.inside.number c.args.region c.from-place.result c.port.inside.passes.items c.index.result.now c.index_mut.result.now
    laid.count units all c.requires.known c.from-place.ensures c.index.ensures c.index_mut.ensures.value

pub returns : goal.returns
returns g c =
    let laid = subst IsLaidOut c.self.view_is c.self.invariant.0 in
    let units = ap (λ (s : SpaceName). s.units) c.self.view_is in
    let all = subst (λ (p : PortState). ArePassesOfAll c.args.self.now.units p.number p.passes) (sym c.port.view_is) c.requires.of in
    record {
      of =
          still_all (regions_of c.args.self.now.namespace) c.args.self.now.units c.self.inside.units.items c.port.inside.number c.args.region c.from-place.result c.port.inside.passes.items c.index.result.now c.index_mut.result.now
          laid.count units all c.requires.known c.from-place.ensures c.index.ensures c.index_mut.ensures.value
          c.history.new.pass c.history.ensures.of c.history.ensures.number;
      number = search rules;
      up =
          becomes (regions_of c.args.self.now.namespace) c.args.self.now.units c.self.inside.units.items c.port.inside.number c.args.region c.from-place.result c.port.inside.passes.items c.index.result.now c.index_mut.result.now
          laid.count units all c.requires.known c.from-place.ensures c.index.ensures c.index_mut.ensures.value
          IsBroughtUp c.args.port.now.passes c.history.new.pass (ap (λ (p : PortState). p.passes) c.port.view_is) c.history.ensures.up c.history.ensures.proper;
      seen =
          seen_so (λ v. v.items) c.history.result c.history.new.pass (views_of (set c.port.inside.passes.items c.from-place.result c.history.new.pass)) c.args.region (after_there (regions_of c.args.self.now.namespace) c.args.self.now.units c.self.inside.units.items c.port.inside.number c.args.region c.from-place.result c.port.inside.passes.items c.index.result.now c.index_mut.result.now
          laid.count units all c.requires.known c.from-place.ensures c.index.ensures c.index_mut.ensures.value
          c.history.new.pass) c.history.ensures.seen;
    }
