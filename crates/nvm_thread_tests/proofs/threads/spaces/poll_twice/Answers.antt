use Rattle.std.proofs.Common.{subst}
use Rattle.nvm_unit.specs.Ends.{views_of}
use Rattle.nvm_space.specs.Progress.{IsProgress}
use Rattle.nvm_space.specs.declared.under_way.Progress.{Progress}
use Rattle.nvm_thread_tests.proofs.threads.spaces.poll_twice.Goals as goal

pub poll_job-polled-requires-clause-under_way : goal.poll_job-polled-requires-clause-under_way
poll_job-polled-requires-clause-under_way c =
    let space = c.args.space.now in
    let start = views_of c.args.port.now.passes in
    let begun = subst (λ (p : Progress). IsProgress space.namespace space.lists 9 c.args.job.now start start p) c.in-Pending.is (c.begin_job.ensures start) in
    (start, begun.1)

pub poll_job-requires-clause-under_way : goal.poll_job-requires-clause-under_way
poll_job-requires-clause-under_way c =
    let space = c.args.space.now in
    let start = views_of c.args.port.now.passes in
    let now = views_of c.poll_job-polled.new.port.passes in
    let begun = subst (λ (p : Progress). IsProgress space.namespace space.lists 9 c.args.job.now start start p) c.in-Pending.is (c.begin_job.ensures start) in
    let polled = subst (λ (p : Progress). IsProgress space.namespace space.lists c.in-Pending.begun.number c.args.job.now start now p)
    c.in-Pending-polled.is (c.poll_job-polled.ensures.goes start begun.1) in
    (start, polled.1)
