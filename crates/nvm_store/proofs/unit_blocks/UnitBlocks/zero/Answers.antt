use Rattle.std.proofs.Common.{◌≡◌, ◌+◌, ◌-◌, refl, ap, ◌∙◌, arith}
use Rattle.std.proofs.lemmas.List.{length-replicate}
use Rattle.std.proofs.lemmas.Result.{on_ok_weaker}
use Rattle.nvm_store.specs.Inside.Rewrite.{zero_block}
use Rattle.nvm_store.specs.Operation.{zeroes_operation}
use Rattle.nvm_store.proofs.Ranges.{sound_after, held-rewritten}
use Rattle.nvm_store.proofs.unit_blocks.UnitBlocks.zero.Goals as goal

pub invariant_of-self : goal.invariant_of-self
invariant_of-self c =
    let at = c.args.first - c.self.inside.first in
    record {
      sound =
          sound_after c.zero.result c.self.inside.first c.self.inside.size at c.args.blocks (λ _. zero_block c.self.inside.blocks.size) c.self.inside.blocks.list c.zero.new.self.list
          c.zero.ensures.ok c.zero.ensures.err c.self.invariant.sound
          (λ i lt. length-replicate c.self.inside.blocks.size 0 ∙ c.self.invariant.same);
      same = c.zero.ensures.size ∙ c.self.invariant.same;
    }

pub returns-clause-step : goal.returns-clause-step
returns-clause-step c =
    let at = c.args.first - c.self.inside.first in
    let within = rw (← c.self.view_is) at c.requires in
    let place : c.self.inside.first + at ≡ c.args.first = omega (arith, within.above) in
    on_ok_weaker c.zero.result
    (λ is m held.
    let held' = rw (← c.self.view_is) at held in
    rw (← c.self.view_is)
    (held-rewritten c.steps_are_local.ensures.outside m c.self.inside.first c.self.inside.size at (zeroes_operation c.args.first c.args.blocks)
    (λ _. zero_block c.self.inside.blocks.size) c.self.inside.blocks.list c.zero.new.self.list (λ lba. refl) held' place is (λ i lt. ap zero_block c.self.invariant.same)))
    c.zero.ensures.ok
