use Rattle.nvm_record.proofs.DeedLemmas.{success_alike}
use Rattle.nvm_record.proofs.laws.success_is_told_alike.Goals as goal

pub returns : goal.returns
returns c = success_alike
