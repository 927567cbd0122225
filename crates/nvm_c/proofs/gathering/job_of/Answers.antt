use Rattle.std.proofs.Common.{◌<◌, length, rules, subst}
use Rattle.nvm_record.specs.Lists.{IsAt}
use Rattle.nvm_audit.specs.RecordedJob.{RecordedJob}
use Rattle.nvm_c.proofs.Places.{at_index}
use Rattle.nvm_c.proofs.gathering.job_of.Goals as goal

pub returns : goal.returns
returns c =
    let jobs = c.args.jobs.now.items in
    let lt : c.did.inside.job < length jobs = search rules in
    subst (λ (d : RecordedJob). IsAt jobs d.job c.index.result.now) c.did.view_is (at_index jobs c.did.inside.job c.index.result.now lt c.index.ensures)
