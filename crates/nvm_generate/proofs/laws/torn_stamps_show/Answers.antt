use Rattle.nvm_generate.proofs.Stamps.{torn}
use Rattle.nvm_generate.proofs.laws.torn_stamps_show.Goals as goal

pub returns : goal.returns
returns c = torn
