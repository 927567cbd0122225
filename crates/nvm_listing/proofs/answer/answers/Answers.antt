use Rattle.std.proofs.Common.{◌≤◌, List, length, map, refl, ap, ◌∙◌, subst, arith}
use Rattle.nvm_record.specs.Lists.{IsAt}
use Rattle.nvm_plan.specs.declared.job.Job.{Job}
use Rattle.nvm_audit.specs.RecordView.{RecordView}
use Rattle.nvm_audit.proofs.Places.{stands_read}
use Rattle.nvm_audit.proofs.DoneWalk.{all_walked, none_walked, one_walked}
use Rattle.nvm_listing.specs.Answers.{answer_of}
use Rattle.nvm_listing.specs.declared.answer.Answer.{Answer}
use Rattle.nvm_listing.proofs.AnswersMade.{answers_made}
use Rattle.nvm_listing.proofs.answer.answers.Goals as goal

pub loop-number-init : goal.loop-number-init
loop-number-init c =
    let r = c.args.run.now in none_walked answers_made tt r.jobs r.done (map answer_of c.new-answers.result.items) (ap (λ (xs : List Answer). map answer_of xs) c.new-answers.ensures.items)

pub job-its-requires-clause-number : goal.job-its-requires-clause-number
job-its-requires-clause-number c =
    let jobs = ap length c.as_slice-jobs.ensures.value ∙ ap (λ (r : RecordView). length r.jobs) c.run.view_is in
    omega (arith, c.loop-number-test.true, jobs)

pub push_answers-requires : goal.push_answers-requires
push_answers-requires c =
    let number = c.loop-number.number in
    let job = c.index-jobs-number.result in
    let jobs = c.as_slice-jobs.ensures.value ∙ ap (λ (r : RecordView). r.jobs) c.run.view_is in
    c.job-its.ensures.statuses job
    (subst (λ (js : List Job). IsAt js number job) jobs
    (stands_read c.as_slice-jobs.result.now number job c.loop-number-test.true c.index-jobs-number.is))

pub loop-number-preserved : goal.loop-number-preserved
loop-number-preserved c =
    let r = c.args.run.now in
    let number = c.loop-number.number in
    let job = c.index-jobs-number.result in
    let jobs = c.as_slice-jobs.ensures.value ∙ ap (λ (r : RecordView). r.jobs) c.run.view_is in
    one_walked answers_made tt r.jobs r.done number job c.job-its.result.now tt tt (map answer_of c.loop-number.answers.items) (map answer_of c.push_answers.new.answers.items)
    (subst (λ (js : List Job). IsAt js number job) jobs
    (stands_read c.as_slice-jobs.result.now number job c.loop-number-test.true c.index-jobs-number.is))
    c.job-its.ensures.its c.loop-number.invariant refl c.in_ok-push_answers.ensures

pub returns : goal.returns
returns c =
    let r = c.args.run.now in
    let jobs = ap length c.as_slice-jobs.ensures.value ∙ ap (λ (r : RecordView). length r.jobs) c.run.view_is in
    let past : length r.jobs ≤ c.loop-number.number = omega (arith, c.loop-number-test.false, jobs) in
    let (its, were, are) = all_walked answers_made tt r.jobs r.done c.loop-number.number tt (map answer_of c.loop-number.answers.items) past c.loop-number.invariant in
    record { its = its; done = were; are = are }
