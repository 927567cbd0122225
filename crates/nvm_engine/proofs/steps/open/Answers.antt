use Rattle.std.proofs.Common.{◌<◌, ◌^◌}
use Rattle.nvm_engine.proofs.Stepping.{opening_ruled}
use Rattle.nvm_engine.proofs.steps.open.Goals as goal

pub of_words-requires : goal.of_words-requires
of_words-requires c =
    let jobs : c.args.bounds.jobs < 2 ^ 32 = search in
    let workers : c.args.bounds.workers < 2 ^ 16 = search in
    opening_ruled c.args.bounds jobs workers
