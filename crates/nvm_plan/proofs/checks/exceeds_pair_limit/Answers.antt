use Rattle.nvm_plan.proofs.PairLimit.{limit_tested}
use Rattle.nvm_plan.proofs.checks.exceeds_pair_limit.Goals as goal

pub returns : goal.returns
returns c =
    limit_tested c.sharing_is_one_number.ensures.number c.sharing_is_one_number.ensures.shares c.within_pair_limit.result c.args.geometry c.args.slba c.args.blocks
    c.within_pair_limit.ensures.within
