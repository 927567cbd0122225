use Rattle.nvm_store.proofs.Ranges as ranges
use Rattle.nvm_store.proofs.laws.some_medium_is_held.Goals as goal

pub returns : goal.returns
returns c = ranges.some_medium_is_held
