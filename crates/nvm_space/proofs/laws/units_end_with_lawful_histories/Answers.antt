use Rattle.std.proofs.Common.{length, ◌<◌, ◌∙◌, arith}
use Rattle.nvm_space.proofs.Lists.{at_below, at_some}
use Rattle.nvm_space.proofs.laws.units_end_with_lawful_histories.Goals as goal

pub returns : goal.returns
returns c s ports histories laid count ends = record {
  count = count ∙ laid.count;
  each = λ k history at.
      let below : k < length histories = at_below histories k history at in
      let unit = at_some s.units k (omega arith) in
      (unit.0.bounds.place, (laid.each k unit.0 unit.1).place, (ends k unit.0 history unit.1 at).whole.lawful.lawful);
}
