use Rattle.nvm_record.proofs.RangesReadBack.{read_ranges_fit, read_back, length-data_of_ranges, length-ranges_of, get_or-ranges_of}
use Rattle.nvm_record.proofs.laws.ranges_are_read_back.Goals as goal

pub returns-clause-again : goal.returns-clause-again
returns-clause-again c = read_back

pub returns-clause-bytes : goal.returns-clause-bytes
returns-clause-bytes c = length-data_of_ranges

pub returns-clause-count : goal.returns-clause-count
returns-clause-count c = length-ranges_of

pub returns-clause-place : goal.returns-clause-place
returns-clause-place c = get_or-ranges_of

pub returns-clause-fit : goal.returns-clause-fit
returns-clause-fit c = read_ranges_fit
