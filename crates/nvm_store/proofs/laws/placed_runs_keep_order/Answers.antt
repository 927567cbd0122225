use Rattle.nvm_store.proofs.Ordering.{steps_in_order}
use Rattle.nvm_store.proofs.laws.placed_runs_keep_order.Goals as goal

pub returns : goal.returns
returns c = steps_in_order
