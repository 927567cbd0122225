use Rattle.nvm_unit.proofs.Among.{entry_among, entry_stands}
use Rattle.nvm_unit.proofs.laws.entries_are_their_passes_own.Goals as goal

pub returns-clause-among : goal.returns-clause-among
returns-clause-among c = entry_among

pub returns-clause-stands : goal.returns-clause-stands
returns-clause-stands c = entry_stands
