use Rattle.nvm_space.proofs.Joined.{joined_is_shuffle}
use Rattle.nvm_space.proofs.laws.there_is_a_shuffle.Goals as goal

pub returns : goal.returns
returns c = joined_is_shuffle
