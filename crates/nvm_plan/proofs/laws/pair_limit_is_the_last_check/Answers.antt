use Rattle.nvm_plan.proofs.PairLimit.{kept, within_limit}
use Rattle.nvm_plan.proofs.laws.pair_limit_is_the_last_check.Goals as goal

pub returns-clause-kept : goal.returns-clause-kept
returns-clause-kept c = kept c.sharing_is_one_number.ensures.number

pub returns-clause-within : goal.returns-clause-within
returns-clause-within c = within_limit c.sharing_is_one_number.ensures.shares
