use Rattle.std.proofs.Common.{◌≡◌, ◌+◌, ◌-◌, refl, ◌∙◌, arith}
use Rattle.std.proofs.lemmas.Result.{on_ok_weaker}
use Rattle.nvm_record.specs.declared.block.Block.TheVariants.{Uncorrectable}
use Rattle.nvm_store.specs.Operation.{uncorrectable_operation}
use Rattle.nvm_store.proofs.Ranges.{sound_after, held-rewritten}
use Rattle.nvm_store.proofs.unit_blocks.UnitBlocks.mark.Goals as goal

pub invariant_of-self : goal.invariant_of-self
invariant_of-self c =
    let at = c.args.first - c.self.inside.first in
    record {
      sound =
          sound_after c.mark.result c.self.inside.first c.self.inside.size at c.args.blocks (λ _. Uncorrectable) c.self.inside.blocks.list c.mark.new.self.list
          c.mark.ensures.ok c.mark.ensures.err c.self.invariant.sound (λ i lt. tt);
      same = c.mark.ensures.size ∙ c.self.invariant.same;
    }

pub returns-clause-step : goal.returns-clause-step
returns-clause-step c =
    let at = c.args.first - c.self.inside.first in
    let within = rw (← c.self.view_is) at c.requires in
    let place : c.self.inside.first + at ≡ c.args.first = omega (arith, within.above) in
    on_ok_weaker c.mark.result
    (λ is m held.
    let held' = rw (← c.self.view_is) at held in
    held-rewritten c.steps_are_local.ensures.outside m c.self.inside.first c.self.inside.size at (uncorrectable_operation c.args.first c.args.blocks)
    (λ _. Uncorrectable) c.self.inside.blocks.list c.mark.new.self.list (λ lba. refl) held' place is (λ i lt. refl))
    c.mark.ensures.ok
