use Rattle.nvm_record.proofs.DeedLemmas.{medium_stays}
use Rattle.nvm_record.proofs.laws.looks_change_nothing.Goals as goal

pub returns : goal.returns
returns c = medium_stays
