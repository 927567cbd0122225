use Rattle.nvm_record.proofs.RangeCuts.{cuts_fit, cuts_have, cuts_lie_within, cuts_are_met, cuts_are_few, ranges_stay, inner_cut, outer_cut}
use Rattle.nvm_record.proofs.laws.cut_ranges_lie_within.Goals as goal

pub returns-clause-has : goal.returns-clause-has
returns-clause-has c = cuts_have

pub returns-clause-within : goal.returns-clause-within
returns-clause-within c = cuts_lie_within

pub returns-clause-met : goal.returns-clause-met
returns-clause-met c = cuts_are_met

pub returns-clause-few : goal.returns-clause-few
returns-clause-few c = cuts_are_few

pub returns-clause-itself : goal.returns-clause-itself
returns-clause-itself c = ranges_stay

pub returns-clause-inner : goal.returns-clause-inner
returns-clause-inner c = inner_cut

pub returns-clause-outer : goal.returns-clause-outer
returns-clause-outer c = outer_cut

pub returns-clause-fit : goal.returns-clause-fit
returns-clause-fit c = cuts_fit
