use Rattle.nvm_geometry.proofs.Deallocations.{lowest_lba_first, no_lba_none}
use Rattle.nvm_geometry.proofs.laws.the_lowest_lba_is_met_first.Goals as goal

pub returns-clause-first : goal.returns-clause-first
returns-clause-first c = lowest_lba_first

pub returns-clause-none : goal.returns-clause-none
returns-clause-none c ns op from inside = no_lba_none ns op from
