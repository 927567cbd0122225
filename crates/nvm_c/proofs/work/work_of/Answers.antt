use Rattle.std.proofs.Common.{◌<◌, length, refl, rules}
use Rattle.nvm_c.proofs.Worked.{refused_there}
use Rattle.nvm_c.proofs.work.work_of.Goals as goal

pub returns-in-Err-clause-refused : goal.returns-in-Err-clause-refused
returns-in-Err-clause-refused c =
    let lt : 0 < length c.args.ports.now = search rules in
    refused_there c.args.ports.now c.args.ports.now 0 c.index-ports-0.result c.index-ports-0.is lt refl c.in-Err.code c.in-Err.ensures.refused
