use Rattle.nvm_generate.proofs.Stamps.{whose}
use Rattle.nvm_generate.proofs.laws.stamps_tell_whose.Goals as goal

pub returns : goal.returns
returns c = whose
