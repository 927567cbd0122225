use Rattle.std.proofs.Common.{ap, sym, ◌∙◌}
use Rattle.nvm_record.specs.Medium as medium
use Rattle.nvm_store.proofs.Ranges.{range-held, unit_with}
use Rattle.nvm_store.proofs.unit_blocks.UnitBlocks.has_mark.Goals as goal

pub returns-clause-held : goal.returns-clause-held
returns-clause-held c m held =
    let unit = unit_with c.self.inside.first c.self.inside.size c.self.inside.blocks.list in
    let held' = rw (← c.self.view_is) at held in
    let within = rw (← c.self.view_is) at c.requires in
    c.has_mark.ensures ∙ ap medium.has_mark (sym (range-held m unit c.args.first c.args.blocks held' within))
