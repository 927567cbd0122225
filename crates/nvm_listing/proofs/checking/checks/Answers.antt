use Rattle.std.proofs.Common.{◌≤◌, List, length, map, rules, sym, ap, ◌∙◌, subst, arith}
use Rattle.nvm_record.specs.Lists.{IsAt}
use Rattle.nvm_record.specs.declared.status.Statuses.{Statuses}
use Rattle.nvm_plan.specs.Shape.{IsForEach}
use Rattle.nvm_plan.specs.declared.job.Job.{Job}
use Rattle.nvm_audit.specs.RecordView.{RecordView}
use Rattle.nvm_audit.specs.RecordedJob.{RecordedJob}
use Rattle.nvm_audit.proofs.Places.{stands_read}
use Rattle.nvm_audit.specs.DoneJobs.{IsDoneJob}
use Rattle.nvm_audit.proofs.DoneWalk.{all_walked, none_walked, one_walked}
use Rattle.nvm_listing.specs.Checks.{Lists}
use Rattle.nvm_listing.proofs.ChecksMade.{checks_made}
use Rattle.nvm_listing.proofs.checking.checks.Goals as goal

pub loop-number-init : goal.loop-number-init
loop-number-init c =
    let r = c.args.run.now in
    none_walked checks_made (map (λ list. list.now) c.args.lists.now) r.jobs r.done c.new-checks.result.items (search rules)

pub job-its-requires-clause-number : goal.job-its-requires-clause-number
job-its-requires-clause-number c =
    let jobs = ap length c.as_slice-jobs.ensures.value ∙ ap (λ (r : RecordView). length r.jobs) c.run.view_is in
    omega (arith, c.loop-number-test.true, jobs)

pub check_job-requires : goal.check_job-requires
check_job-requires c =
    let number = c.loop-number.number in
    let job = c.index-jobs-number.result in
    let jobs = c.as_slice-jobs.ensures.value ∙ ap (λ (r : RecordView). r.jobs) c.run.view_is in
    subst (λ (statuses : Statuses). IsForEach job.body statuses) (sym (ap (λ (d : RecordedJob). d.statuses) c.its.view_is))
    (c.job-its.ensures.statuses job
    (subst (λ (js : List Job). IsAt js number job) jobs
    (stands_read c.as_slice-jobs.result.now number job c.loop-number-test.true c.index-jobs-number.is)))

pub loop-number-preserved : goal.loop-number-preserved
loop-number-preserved c =
    let r = c.args.run.now in
    let lists : Lists = map (λ list. list.now) c.args.lists.now in
    let number = c.loop-number.number in
    let job = c.index-jobs-number.result in
    let jobs = c.as_slice-jobs.ensures.value ∙ ap (λ (r : RecordView). r.jobs) c.run.view_is in
    one_walked checks_made lists r.jobs r.done number job _ (map (λ list. list.now) c.loop-number.lists) _ c.loop-number.checks.items _
    (subst (λ (js : List Job). IsAt js number job) jobs
    (stands_read c.as_slice-jobs.result.now number job c.loop-number-test.true c.index-jobs-number.is))
    (subst (λ (d : RecordedJob). IsDoneJob r.done number d) (sym c.its.view_is) c.job-its.ensures.its)
    c.loop-number.invariant c.in_ok-check_job.ensures.left c.in_ok-check_job.ensures.checks

pub returns : goal.returns
returns c =
    let r = c.args.run.now in
    let lists : Lists = map (λ list. list.now) c.args.lists.now in
    let left : Lists = map (λ list. list.now) c.loop-number.lists in
    let jobs = ap length c.as_slice-jobs.ensures.value ∙ ap (λ (r : RecordView). length r.jobs) c.run.view_is in
    let past : length r.jobs ≤ c.loop-number.number = omega (arith, c.loop-number-test.false, jobs) in
    let (its, were, are) = all_walked checks_made lists r.jobs r.done c.loop-number.number left c.loop-number.checks.items past c.loop-number.invariant in
    record { its = its; done = were; are = are }
