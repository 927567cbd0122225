use Rattle.nvm_record.specs.Medium.{zero_medium}
use Rattle.nvm_store.proofs.Replays.{replay_from-append}
use Rattle.nvm_store.proofs.laws.replay_of_one_more.Goals as goal

pub returns : goal.returns
returns c size history entry = replay_from-append size (zero_medium size) history entry
