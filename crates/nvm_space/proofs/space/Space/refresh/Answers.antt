use Rattle.std.proofs.Common.{ap, sym, subst, rules}
use Rattle.nvm_unit.specs.Replies.{IsBroughtUp}
use Rattle.nvm_geometry.specs.Large.{regions_of}
use Rattle.nvm_space.specs.Ports.{PortState, ArePassesOfAll}
use Rattle.nvm_space.specs.Spaces.{SpaceName, IsLaidOut}
use Rattle.nvm_space.proofs.Meetings.{of_unit, still_all, becomes}
use Rattle.nvm_space.proofs.space.Space.refresh.Goals as goal

pub refresh-requires : goal.refresh-requires
refresh-requires g c =
    let laid = subst IsLaidOut c.self.view_is c.self.invariant.0 in
    let units = ap (λ (s : SpaceName). s.units) c.self.view_is in
    let all = subst (λ (p : PortState). ArePassesOfAll c.args.self.now.units p.number p.passes) (sym c.port.view_is) c.requires.of in
    of_unit (regions_of c.args.self.now.namespace) c.args.self.now.units c.self.inside.units.items c.port.inside.number c.args.region c.from-place.result c.port.inside.passes.items c.index.result.now c.index_mut.result.now
    laid.count units all c.requires.known c.from-place.ensures c.index.ensures c.index_mut.ensures.value

pub returns : goal.returns
returns g c =
    let laid = subst IsLaidOut c.self.view_is c.self.invariant.0 in
    let units = ap (λ (s : SpaceName). s.units) c.self.view_is in
    let all = subst (λ (p : PortState). ArePassesOfAll c.args.self.now.units p.number p.passes) (sym c.port.view_is) c.requires.of in
    record {
      of =
          still_all (regions_of c.args.self.now.namespace) c.args.self.now.units c.self.inside.units.items c.port.inside.number c.args.region c.from-place.result c.port.inside.passes.items c.index.result.now c.index_mut.result.now
          laid.count units all c.requires.known c.from-place.ensures c.index.ensures c.index_mut.ensures.value
          c.refresh.new.pass c.refresh.ensures.of c.refresh.ensures.number;
      number = search rules;
      up =
          becomes (regions_of c.args.self.now.namespace) c.args.self.now.units c.self.inside.units.items c.port.inside.number c.args.region c.from-place.result c.port.inside.passes.items c.index.result.now c.index_mut.result.now
          laid.count units all c.requires.known c.from-place.ensures c.index.ensures c.index_mut.ensures.value
          IsBroughtUp c.args.port.now.passes c.refresh.new.pass (ap (λ (p : PortState). p.passes) c.port.view_is) c.refresh.ensures.up c.refresh.ensures.proper;
    }
