use Rattle.std.proofs.Common.{ℕ, subst}
use Rattle.nvm_unit.specs.Ends.{views_of}
use Rattle.nvm_space.specs.Progress.{IsProgress}
use Rattle.nvm_space.specs.declared.under_way.Progress.{Progress}
use Rattle.nvm_calling.proofs.space.poll_turn.Goals as goal

pub poll_job-requires-clause-under_way : goal.poll_job-requires-clause-under_way
poll_job-requires-clause-under_way c =
    let known = subst (λ (p : Progress). IsProgress c.args.space.now.namespace c.args.space.now.lists c.requires.begun.0 c.args.job.now c.requires.begun.1 (views_of c.args.port.now.passes) p)
    c.in-Pending.is c.requires.begun.2 in
    (c.requires.begun.1, known.1)

pub returns-in-Pending-clause-goes : goal.returns-in-Pending-clause-goes
returns-in-Pending-clause-goes c = λ number start begun.
    let ns = c.args.space.now.namespace in
    let known = subst (λ (p : Progress). IsProgress ns c.args.space.now.lists number c.args.job.now start (views_of c.args.port.now.passes) p) c.in-Pending.is begun in
    subst (λ (n : ℕ). IsProgress ns c.args.space.now.lists n c.args.job.now start (views_of c.poll_job.new.port.passes) c.poll_job.result) known.0
    (c.poll_job.ensures.goes start known.1)
