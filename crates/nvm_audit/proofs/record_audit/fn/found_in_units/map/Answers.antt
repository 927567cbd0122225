use Rattle.std.proofs.Common.{length}
use Rattle.nvm_audit.specs.RecordedPart.{parts_of_workers}
use Rattle.nvm_audit.proofs.Groups.{group_is}
use Rattle.nvm_audit.proofs.record_audit.fn.found_in_units.map.Goals as goal

pub fault_of_parts-found-requires : goal.fault_of_parts-found-requires
fault_of_parts-found-requires g c =
    let r = c.captures.record.now in
    record {
      there = c.requires.there;
      shapes = c.requires.shapes;
      parts =
          group_is (λ group. group.items) (length r.units) (parts_of_workers 0 r.done) c.captures.parts.now.items c.args.unit
          c.index.result.now c.index.result.now c.requires.grouped c.requires.there c.index.ensures;
    }
