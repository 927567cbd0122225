use Rattle.nvm_store.proofs.Replays.{point-more}
use Rattle.nvm_store.proofs.laws.next_point.Goals as goal

pub returns : goal.returns
returns c = point-more
