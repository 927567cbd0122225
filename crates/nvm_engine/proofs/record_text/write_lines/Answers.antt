use Rattle.std.proofs.Common.{◌≤◌, length, sym, ap, ◌∙◌, subst, arith}
use Rattle.nvm_record.specs.declared.status.Statuses.{Statuses}
use Rattle.nvm_text.proofs.Taking.{on_err}
use Rattle.nvm_plan.specs.Shape.{IsForEach}
use Rattle.nvm_audit.specs.RecordView.{RecordView}
use Rattle.nvm_audit.specs.RecordedJob.{RecordedJob}
use Rattle.nvm_engine.specs.UnderLine.{lists_say}
use Rattle.nvm_engine.proofs.Writing.{all_written, none_written, one_more, read_job, within_one}
use Rattle.nvm_engine.proofs.record_text.write_lines.Goals as goal

pub loop-number-init : goal.loop-number-init
loop-number-init g c = none_written c.args.form (lists_say c.args.lists.now) c.args.run.now _

pub job-its-requires-clause-number : goal.job-its-requires-clause-number
job-its-requires-clause-number g c =
    let jobs = ap length c.as_slice-jobs.ensures.value ∙ ap (λ (r : RecordView). length r.jobs) c.run.view_is in
    omega (arith, c.loop-number-test.true, jobs)

pub write_job-requires : goal.write_job-requires
write_job-requires g c =
    let job = c.index-jobs-number.result in
    let jobs = c.as_slice-jobs.ensures.value ∙ ap (λ (r : RecordView). r.jobs) c.run.view_is in
    subst (λ (statuses : Statuses). IsForEach job.body statuses) (sym (ap (λ (d : RecordedJob). d.statuses) c.its.view_is))
    (c.job-its.ensures.statuses job (read_job c.args.run.now _ _ job jobs c.loop-number-test.true c.index-jobs-number.is))

pub returns-in_err-write_job-clause-front : goal.returns-in_err-write_job-clause-front
returns-in_err-write_job-clause-front g c =
    let r = c.args.run.now in
    let jobs = c.as_slice-jobs.ensures.value ∙ ap (λ (r : RecordView). r.jobs) c.run.view_is in
    on_err c.from_residual.result
    (within_one c.args.form (lists_say c.args.lists.now) r _ c.index-jobs-number.result _ _
    (read_job r _ _ _ jobs c.loop-number-test.true c.index-jobs-number.is) c.its.view_is c.job-its.ensures.its (lists_say c.loop-number.lists)
    c.args.found.now c.requires _ _ _ c.loop-number.invariant c.in_err-write_job.ensures.front)

pub loop-number-preserved : goal.loop-number-preserved
loop-number-preserved g c =
    let r = c.args.run.now in
    let jobs = c.as_slice-jobs.ensures.value ∙ ap (λ (r : RecordView). r.jobs) c.run.view_is in
    one_more c.args.form (lists_say c.args.lists.now) r _ c.index-jobs-number.result _ _
    (read_job r _ _ _ jobs c.loop-number-test.true c.index-jobs-number.is) c.its.view_is c.job-its.ensures.its (lists_say c.loop-number.lists)
    _ _ _ _ c.loop-number.invariant c.in_ok-write_job.ensures.whole c.in_ok-write_job.ensures.left

pub returns-clause-whole : goal.returns-clause-whole
returns-clause-whole g c =
    let r = c.args.run.now in
    let jobs = ap length c.as_slice-jobs.ensures.value ∙ ap (λ (r : RecordView). length r.jobs) c.run.view_is in
    let past : length r.jobs ≤ c.loop-number.number = omega (arith, c.loop-number-test.false, jobs) in
    all_written c.args.form (lists_say c.args.lists.now) r _ _ c.loop-number.number (lists_say c.loop-number.lists) past
    c.loop-number.invariant
