use Rattle.std.proofs.Common.{◌≡◌, ℕ, List, ◌++◌, ap, sym, length, ◌∙◌}
use Rattle.nvm_record.specs.Medium as medium
use Rattle.nvm_store.specs.Inside.Sound.{blocks_at}
use Rattle.nvm_store.proofs.Ranges.{range-held, unit_with}
use Rattle.nvm_store.proofs.Comparisons.{bytes_length}
use Rattle.nvm_store.proofs.unit_blocks.UnitBlocks.bytes.Goals as goal

-- All bytes are those of the blocks.
all : (c : goal.In_ok-push_bytes) → c.push_bytes.new.bytes.items
    ≡ medium.joined (blocks_at (unit_with c.self.inside.first c.self.inside.size c.self.inside.blocks.list) c.args.first c.args.blocks)
all c =
    let here = blocks_at (unit_with c.self.inside.first c.self.inside.size c.self.inside.blocks.list) c.args.first c.args.blocks in
    c.in_ok-push_bytes.ensures ∙ ap (λ (l : List ℕ). l ++ medium.joined here) c.in_ok-bytes.ensures.items

pub returns-clause-held : goal.returns-clause-held
returns-clause-held c m held =
    let unit = unit_with c.self.inside.first c.self.inside.size c.self.inside.blocks.list in
    let held' = rw (← c.self.view_is) at held in
    let within = rw (← c.self.view_is) at c.requires.range in
    all c ∙ ap medium.joined (sym (range-held m unit c.args.first c.args.blocks held' within))

pub returns-clause-len : goal.returns-clause-len
returns-clause-len c =
    let unit = unit_with c.self.inside.first c.self.inside.size c.self.inside.blocks.list in
    let within = rw (← c.self.view_is) at c.requires.range in
    let none = rw (← c.self.view_is) at c.requires.unmarked in
    rw (← c.self.view_is)
    (ap length (all c)
    ∙ bytes_length unit c.args.first c.args.blocks c.self.invariant.sound.sized within none)
