use Rattle.nvm_record.proofs.DeedLemmas.{read_compares}
use Rattle.nvm_record.proofs.laws.reading_is_comparing.Goals as goal

pub returns : goal.returns
returns c = read_compares
