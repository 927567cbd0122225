use Rattle.std.proofs.Common.{sym}
use Rattle.std.proofs.lemmas.List.{length-replicate}
use Rattle.nvm_store.specs.Inside.Rewrite.{zero_block}
use Rattle.nvm_store.proofs.ZeroBlocks.{zero_unmarked}
use Rattle.nvm_store.proofs.blocks.Blocks.has_mark.Goals as goal

pub returns-in-Zeroes : goal.returns-in-Zeroes
returns-in-Zeroes c =
    let n = c.in-Zeroes.field-0 in
    let s = c.self.inside.size in
    let within = rw (length-replicate n (zero_block s)) at (rw c.in-Zeroes.is at (rw (← c.self.view_is) at c.requires)) in
    rw (← c.self.view_is, c.in-Zeroes.is) (sym (zero_unmarked n s c.args.at c.args.count within))
