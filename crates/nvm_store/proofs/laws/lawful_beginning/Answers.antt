use Rattle.nvm_store.proofs.Replays as replays
use Rattle.nvm_store.proofs.laws.lawful_beginning.Goals as goal

pub returns : goal.returns
returns c = replays.lawful_beginning
