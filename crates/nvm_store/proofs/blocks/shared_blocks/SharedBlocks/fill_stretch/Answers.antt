use Rattle.std.proofs.Common.{◌+◌, ◌≤◌, ap, take, arith, inl, inr}
use Rattle.std.proofs.lemmas.List.{length-take-le}
use Rattle.std.proofs.lemmas.Result.{IfOk-weaker}
use Rattle.nvm_store.specs.Inside.Levels.{blocks_of}
use Rattle.nvm_store.specs.Inside.Source.{source_block}
use Rattle.nvm_store.proofs.Rewrites.{rewritten_front}
use Rattle.nvm_store.proofs.blocks.shared_blocks.SharedBlocks.fill_stretch.Goals as goal

pub returns-clause-ok : goal.returns-clause-ok
returns-clause-ok c =
    let all = blocks_of c.self.inside.levels in
    let count = c.self.inside.count in
    let range = rw (← c.self.view_is, length-take-le count all c.self.invariant) at c.requires.range in
    IfOk-weaker c.fill.result _ _
    (λ n filled.
    let some : c.args.from + n ≤ c.args.to = filled.few in
    let within : c.args.at + n ≤ count = omega (arith, range) in
    record {
      enough =
          elim filled.enough [
            | inl all' ↦ inl all'
            | inr none ↦ inr (none.0, none.1, rw (← c.self.view_is) (ap (take count) none.2))
          ];
      few = filled.few;
      is = rw (← c.self.view_is)
          (rewritten_front c.args.at n count (λ i. source_block c.args.source.now (c.args.from + i)) all (blocks_of c.fill.new.self) within
          c.self.invariant filled.is);
    })
    c.fill.ensures.ok
