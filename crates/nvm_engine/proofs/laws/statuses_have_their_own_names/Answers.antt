use Rattle.nvm_engine.proofs.NamesApart as names
use Rattle.nvm_engine.proofs.laws.statuses_have_their_own_names.Goals as goal

pub returns-clause-apart : goal.returns-clause-apart
returns-clause-apart c = names.apart

pub returns-clause-known : goal.returns-clause-known
returns-clause-known c = names.known
