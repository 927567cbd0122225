use Rattle.std.proofs.Common.{◌≡◌, ℕ, ◌+◌, ◌-◌, refl, ap, ◌∙◌, arith}
use Rattle.std.proofs.lemmas.Result.{on_ok_weaker}
use Rattle.nvm_record.specs.PayloadRef.{lent_bytes}
use Rattle.nvm_record.specs.Step.{block_at}
use Rattle.nvm_store.specs.Operation.{write_operation}
use Rattle.nvm_store.proofs.Ranges.{sound_after, held-rewritten, data_sized}
use Rattle.nvm_store.proofs.unit_blocks.UnitBlocks.write.Goals as goal

pub invariant_of-self : goal.invariant_of-self
invariant_of-self c =
    let at = c.args.first - c.self.inside.first in
    record {
      sound =
          sound_after c.write.result c.self.inside.first c.self.inside.size at c.args.blocks (block_at c.self.inside.blocks.size (lent_bytes c.args.payload)) c.self.inside.blocks.list c.write.new.self.list
          c.write.ensures.ok c.write.ensures.err c.self.invariant.sound
          (λ i lt. rw c.self.invariant.same (data_sized c.self.inside.size c.args.blocks (lent_bytes c.args.payload) i (rw (← c.self.view_is) at c.requires.payload) lt));
      same = c.write.ensures.size ∙ c.self.invariant.same;
    }

pub returns-clause-step : goal.returns-clause-step
returns-clause-step c =
    let at = c.args.first - c.self.inside.first in
    let within = rw (← c.self.view_is) at c.requires.range in
    let place : c.self.inside.first + at ≡ c.args.first = omega (arith, within.above) in
    on_ok_weaker c.write.result
    (λ is m held.
    let held' = rw (← c.self.view_is) at held in
    rw (← c.self.view_is)
    (held-rewritten c.steps_are_local.ensures.outside m c.self.inside.first c.self.inside.size at (write_operation c.args.first c.args.blocks (lent_bytes c.args.payload))
    (block_at c.self.inside.blocks.size (lent_bytes c.args.payload)) c.self.inside.blocks.list c.write.new.self.list (λ lba. refl) held' place is (λ i lt. ap (λ (n : ℕ). block_at n (lent_bytes c.args.payload) i) c.self.invariant.same)))
    c.write.ensures.ok
