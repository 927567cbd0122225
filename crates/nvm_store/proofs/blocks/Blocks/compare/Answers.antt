use Rattle.std.proofs.Common.{ℕ, List, sym, ap, ◌∙◌}
use Rattle.std.proofs.lemmas.List.{length-replicate}
use Rattle.std.specs.Str.{bytes_eq}
use Rattle.nvm_store.specs.Inside.Rewrite.{zero_block}
use Rattle.nvm_store.proofs.ZeroBlocks.{zero_joined, zero_unmarked}
use Rattle.nvm_store.proofs.blocks.Blocks.compare.Goals as goal

pub returns-in-Zeroes-clause-same : goal.returns-in-Zeroes-clause-same
returns-in-Zeroes-clause-same c =
    let n = c.in-Zeroes.field-0 in
    let s = c.self.inside.size in
    let within = rw (length-replicate n (zero_block s)) at (rw c.in-Zeroes.is at (rw (← c.self.view_is) at c.requires.range)) in
    rw (← c.self.view_is, c.in-Zeroes.is) (
      zero_unmarked n s c.args.at c.args.count within,
      c.is_zeroes.ensures ∙ ap (λ (l : List ℕ). bytes_eq l c.args.payload.now) (sym (zero_joined n s c.args.at c.args.count within)),
    )
