use Rattle.std.proofs.Common.{ap, sym, ◌∙◌}
use Rattle.nvm_record.specs.Medium as medium
use Rattle.nvm_store.proofs.Ranges.{range-held, unit_with}
use Rattle.nvm_store.proofs.Comparisons.{bytes_length}
use Rattle.nvm_store.proofs.unit_blocks.UnitBlocks.read_into.Goals as goal

pub read_into-requires-clause-room : goal.read_into-requires-clause-room
read_into-requires-clause-room c none =
    let unit = unit_with c.self.inside.first c.self.inside.size c.self.inside.blocks.list in
    let within = rw (← c.self.view_is) at c.requires.range in
    let room = rw (← c.self.view_is) at c.requires.room in
    room ∙ sym (bytes_length unit c.args.first c.args.blocks c.self.invariant.sound.sized within none)

pub returns-clause-marked : goal.returns-clause-marked
returns-clause-marked c m held =
    let unit = unit_with c.self.inside.first c.self.inside.size c.self.inside.blocks.list in
    let held' = rw (← c.self.view_is) at held in
    let within = rw (← c.self.view_is) at c.requires.range in
    c.read_into.ensures.marked ∙ ap medium.has_mark (sym (range-held m unit c.args.first c.args.blocks held' within))

pub returns-clause-read : goal.returns-clause-read
returns-clause-read c none m held =
    let unit = unit_with c.self.inside.first c.self.inside.size c.self.inside.blocks.list in
    let held' = rw (← c.self.view_is) at held in
    let within = rw (← c.self.view_is) at c.requires.range in
    c.read_into.ensures.read none ∙ ap medium.joined (sym (range-held m unit c.args.first c.args.blocks held' within))
