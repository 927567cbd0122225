use Rattle.nvm_record.proofs.Locality.{bounds_of_range, after_outside, after_unreached, statuses_agree, data_agrees, blocks_agree}
use Rattle.nvm_record.proofs.laws.steps_are_local.Goals as goal

pub returns-clause-range : goal.returns-clause-range
returns-clause-range c = bounds_of_range

pub returns-clause-outside : goal.returns-clause-outside
returns-clause-outside c = after_outside

pub returns-clause-unreached : goal.returns-clause-unreached
returns-clause-unreached c = after_unreached

pub returns-clause-statuses : goal.returns-clause-statuses
returns-clause-statuses c = statuses_agree

pub returns-clause-payload : goal.returns-clause-payload
returns-clause-payload c = data_agrees

pub returns-clause-blocks : goal.returns-clause-blocks
returns-clause-blocks c = blocks_agree
