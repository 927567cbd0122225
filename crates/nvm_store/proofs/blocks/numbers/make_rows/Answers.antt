use Rattle.std.proofs.Common.{◌∙◌}
use Rattle.nvm_store.proofs.blocks.numbers.make_rows.Goals as goal

pub loop-at-preserved : goal.loop-at-preserved
loop-at-preserved c = record { sound = c.own_row.ensures.sound; same = c.own_row.ensures.same ∙ c.loop-at.invariant.same }
