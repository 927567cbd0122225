use Rattle.std.proofs.Common.{is_some, sym, subst, List}
use Rattle.nvm_space.specs.Inside.Recorded.{limit_of}
use Rattle.nvm_space.specs.Ports.{PortState, AreAllPortsOf}
use Rattle.nvm_space.specs.Spaces.{SpaceName, most_entries}
use Rattle.nvm_space.proofs.NewPorts.{laid_as_recorded, new_ports_are_all}
use Rattle.nvm_space.proofs.space.Space.made.Goals as goal

pub invariant_of-result : goal.invariant_of-result
invariant_of-result g c = (
  laid_as_recorded c.args.geometry c.args.ports c.args.recorded c.limit_in-limit.result c.args.versions c.in_ok-units.units.items c.limit_in-limit.ensures c.in_ok-units.ensures.units,
  c.regions-regions.ensures,
  c.requires,
)

pub returns-clause-units : goal.returns-clause-units
returns-clause-units g c =
    laid_as_recorded c.args.geometry c.args.ports c.args.recorded c.limit_in-limit.result c.args.versions c.in_ok-units.units.items c.limit_in-limit.ensures c.in_ok-units.ensures.units

pub returns-clause-all : goal.returns-clause-all
returns-clause-all g c =
    let s : SpaceName = record {
      namespace = c.args.geometry;
      ports = c.args.ports;
      limit = most_entries (limit_of c.args.recorded);
      lists = is_some c.args.recorded;
      versions = c.args.versions;
      units = c.in_ok-units.units.items;
    } in
    subst (λ (ps : List PortState). AreAllPortsOf s ps) (sym c.in_ok-units.ensures.ports) (new_ports_are_all s)
