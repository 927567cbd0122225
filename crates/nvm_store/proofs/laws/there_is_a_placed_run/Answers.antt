use Rattle.nvm_store.proofs.Placing.{placed_run_is_placed, placed_back}
use Rattle.nvm_store.proofs.laws.there_is_a_placed_run.Goals as goal

pub returns-clause-placed : goal.returns-clause-placed
returns-clause-placed c = placed_run_is_placed

pub returns-clause-back : goal.returns-clause-back
returns-clause-back c = placed_back
