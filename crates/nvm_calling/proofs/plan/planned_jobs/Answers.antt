use Rattle.std.proofs.Common.{◌≡◌, ◌∙◌, List, [], ◌∷◌, ◌++◌, map, sym, subst, ap, append_assoc, All}
use Rattle.std.proofs.lemmas.List.{map-append}
use Rattle.std.proofs.lemmas.List.Elements.{All-push}
use Rattle.nvm_plan.specs.declared.job.Job.{Job}
use Rattle.nvm_plan.specs.Ready.{IsPlan}
use Rattle.nvm_calling.specs.declared.plan.PlannedJob.{PlannedJob}
use Rattle.nvm_calling.proofs.plan.planned_jobs.Goals as goal

-- One job more is planned, and one less is left.
one_more : (planned more : List PlannedJob) (p : PlannedJob) (rest all : List Job) → more ≡ planned ++ p ∷ []
    → map (λ q. q.job) planned ++ (p.job ∷ rest) ≡ all → map (λ q. q.job) more ++ rest ≡ all
one_more planned more p rest all is before =
    ap (λ (ps : List PlannedJob). map (λ q. q.job) ps ++ rest) is
    ∙ (ap (λ (js : List Job). js ++ rest) (map-append (λ (q : PlannedJob). q.job) planned (p ∷ []))
    ∙ (append_assoc (map (λ q. q.job) planned) (p.job ∷ []) rest ∙ before))

pub loop-job-preserved : goal.loop-job-preserved
loop-job-preserved c =
    let planned = c.loop-job.planned.items in
    let p : PlannedJob = record { job = c.in-Some.job; plan = c.plan-plan.result } in
    let P : PlannedJob → Type 0 = λ q. IsPlan c.args.geometry.now q.job q.plan in
    let items = c.in_ok-push-3.ensures.items in
    record {
      jobs = one_more planned _ p _ _ items (ap (λ (js : List Job). map (λ q. q.job) planned ++ js) (sym c.in-Some.ensures.steps.0) ∙ c.loop-job.invariant.jobs);
      plans = subst (λ (ps : List PlannedJob). All P ps) (sym items) (All-push P planned p c.loop-job.invariant.plans c.plan-plan.ensures.table);
    }
