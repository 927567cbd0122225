use Rattle.std.proofs.Common.{◌≡◌, ℕ, ◌*◌, length, replicate, sym, ap, ◌∙◌}
use Rattle.std.proofs.lemmas.List.{length-replicate}
use Rattle.nvm_store.specs.Inside.Rewrite.{zero_block}
use Rattle.nvm_store.proofs.ZeroBlocks.{zero_joined, zero_unmarked}
use Rattle.nvm_store.proofs.blocks.Blocks.read_into.Goals as goal

pub returns-in-Zeroes-clause-marked : goal.returns-in-Zeroes-clause-marked
returns-in-Zeroes-clause-marked c =
    let n = c.in-Zeroes.field-0 in
    let s = c.self.inside.size in
    let within = rw (length-replicate n (zero_block s)) at (rw c.in-Zeroes.is at (rw (← c.self.view_is) at c.requires.range)) in
    rw (← c.self.view_is, c.in-Zeroes.is) (sym (zero_unmarked n s c.args.at c.args.count within))

pub returns-in-Zeroes-clause-read : goal.returns-in-Zeroes-clause-read
returns-in-Zeroes-clause-read c same =
    let n = c.in-Zeroes.field-0 in
    let s = c.self.inside.size in
    let at = c.args.at in
    let count = c.args.count in
    let within = rw (length-replicate n (zero_block s)) at (rw c.in-Zeroes.is at (rw (← c.self.view_is) at c.requires.range)) in
    let room = (rw c.in-Zeroes.is at (rw (← c.self.view_is) at c.requires.room)) (zero_unmarked n s at count within) in
    let joined = zero_joined n s at count within in
    let len : length c.args.buffer.now ≡ count * s = room ∙ ap length joined ∙ length-replicate {A = ℕ} (count * s) 0 in
    rw (← c.self.view_is, c.in-Zeroes.is)
    (c.fill.ensures.after (λ y e. e) ∙ ap (λ (k : ℕ). replicate k 0) len ∙ sym joined)
