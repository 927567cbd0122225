use Rattle.nvm_trace.proofs.WriteLimit.{limit_tested}
use Rattle.nvm_trace.proofs.pieces.exceeds_write_limit.Goals as goal

pub returns : goal.returns
returns c =
    limit_tested c.sharing_is_one_number.ensures.number c.sharing_is_one_number.ensures.shares c.within_write_limit.result c.args.geometry c.args.slba
    c.args.blocks c.within_write_limit.ensures.within
