use Rattle.std.proofs.Common.{subst}
use Rattle.nvm_unit.specs.Ends.{views_of}
use Rattle.nvm_space.specs.Progress.{IsProgress}
use Rattle.nvm_space.specs.declared.under_way.Progress.{Progress}
use Rattle.nvm_rows.proofs.spaces.ports.polled_once.Goals as goal

pub poll_job-requires-clause-under_way : goal.poll_job-requires-clause-under_way
poll_job-requires-clause-under_way c =
    let views = views_of c.args.port.now.passes in
    let known = subst (λ (p : Progress). IsProgress c.args.space.now.namespace c.args.space.now.lists 5 c.args.job.now views views p) c.in-Pending.is (c.begin_job.ensures views) in
    (views, known.1)
