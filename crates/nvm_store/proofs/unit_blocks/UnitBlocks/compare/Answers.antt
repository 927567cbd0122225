use Rattle.std.proofs.Common.{◌≡◌, List, subst, sym}
use Rattle.std.specs.Prelude.{IfNone, IfSome, false, true}
use Rattle.std.specs.Str.{bytes_eq}
use Rattle.nvm_record.specs.declared.block.Block.{Block}
use Rattle.nvm_record.specs.Medium as medium
use Rattle.nvm_store.proofs.Ranges.{range-held, unit_with}
use Rattle.nvm_store.proofs.unit_blocks.UnitBlocks.compare.Goals as goal

pub returns-clause-marked : goal.returns-clause-marked
returns-clause-marked c m held =
    let unit = unit_with c.self.inside.first c.self.inside.size c.self.inside.blocks.list in
    let held' = rw (← c.self.view_is) at held in
    let within = rw (← c.self.view_is) at c.requires in
    subst (λ (bs : List Block). IfNone c.compare.result (medium.has_mark bs ≡ true)) (sym (range-held m unit c.args.first c.args.blocks held' within))
    c.compare.ensures.marked

pub returns-clause-same : goal.returns-clause-same
returns-clause-same c m held =
    let unit = unit_with c.self.inside.first c.self.inside.size c.self.inside.blocks.list in
    let held' = rw (← c.self.view_is) at held in
    let within = rw (← c.self.view_is) at c.requires in
    subst (λ (bs : List Block). IfSome c.compare.result (λ same. (medium.has_mark bs ≡ false) × (same ≡ bytes_eq (medium.joined bs) c.args.payload.now)))
    (sym (range-held m unit c.args.first c.args.blocks held' within)) c.compare.ensures.same
