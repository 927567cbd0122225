use Rattle.std.proofs.Common.{ℕ, ◌∙◌, subst}
use Rattle.std.proofs.lemmas.List.{length-replicate}
use Rattle.nvm_store.specs.Inside.Memory.{listed}
use Rattle.nvm_store.specs.Inside.Rewrite.{IsRewritten, zero_block}
use Rattle.nvm_store.proofs.ZeroBlocks.{all_zero, zero_still}
use Rattle.nvm_store.proofs.blocks.Blocks.zero.Goals as goal

pub returns-then-is_own-clause-ok : goal.returns-then-is_own-clause-ok
returns-then-is_own-clause-ok c =
    let old = listed c.self.inside.size c.self.inside.memory in
    let range = rw (← c.self.view_is) at c.requires in
    let len = rw (← c.self.view_is) at c.len.ensures in
    rw (← c.self.view_is) (all_zero c.args.at c.args.count c.self.inside.size old range (c.if-count-len.true ∙ len))

pub returns-in-Zeroes-clause-ok : goal.returns-in-Zeroes-clause-ok
returns-in-Zeroes-clause-ok c =
    let n = c.in-Zeroes.field-0 in
    let s = c.self.inside.size in
    let within = rw (length-replicate n (zero_block s)) at (rw c.in-Zeroes.is at (rw (← c.self.view_is) at c.requires)) in
    rw (← c.self.view_is, c.in-Zeroes.is) (zero_still n s c.args.at c.args.count within)

pub returns-in-Flat-clause-ok : goal.returns-in-Flat-clause-ok
returns-in-Flat-clause-ok c =
    rw (← c.self.view_is, c.in-Flat.is)
    (subst (λ (s : ℕ). IsRewritten c.args.at c.args.count (λ _. zero_block s) c.in-Flat.blocks.list c.clear.new.self.list)
    (rw c.in-Flat.is at c.self.invariant).same c.clear.ensures.list)
