use Rattle.std.proofs.lemmas.List.{length-replicate}
use Rattle.nvm_store.specs.Inside.Rewrite.{zero_block}
use Rattle.nvm_store.proofs.ZeroBlocks.{zero_joined}
use Rattle.nvm_store.proofs.blocks.Blocks.push_bytes.Goals as goal

pub returns-in-Zeroes : goal.returns-in-Zeroes
returns-in-Zeroes c =
    let n = c.in-Zeroes.field-0 in
    let s = c.self.inside.size in
    let within = rw (length-replicate n (zero_block s)) at (rw c.in-Zeroes.is at (rw (← c.self.view_is) at c.requires.range)) in
    rw (← c.self.view_is, c.in-Zeroes.is, zero_joined n s c.args.at c.args.count within) c.push_zeroes.ensures
