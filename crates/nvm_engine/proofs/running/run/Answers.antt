use Rattle.std.proofs.Common.{List, map, subst}
use Rattle.nvm_plan.specs.declared.job.Job.{Job}
use Rattle.nvm_engine.specs.Inside.Gathering.{run_record, IsOfWorkers}
use Rattle.nvm_engine.proofs.WholeRun.{record_of_run, run_is_recordable}
use Rattle.nvm_engine.proofs.running.run.Goals as goal

pub invariant_of-result : goal.invariant_of-result
invariant_of-result g c =
    let jobs = c.args.jobs.items in
    let units = map (λ history. history.items) c.in-Ok.ended.0.items in
    let done = map (λ work. work.items) c.in-Ok.ended.1.items in
    let r = run_record c.args.geometry c.args.limit c.args.workers jobs units done in
    let of : IsOfWorkers r = subst (λ (js : List Job). IsOfWorkers (run_record c.args.geometry c.args.limit c.args.workers js units done)) c.deref.ensures.value c.in-Ok.ensures.gathered in
    run_is_recordable c.args.geometry c.args.limit c.args.workers jobs units done of c.lawful_records_can_be_held.ensures
    (c.gathered_records_are_lawful.ensures of.space of.ports r of.gathered) c.requires.few c.requires.known

pub returns-clause-record : goal.returns-clause-record
returns-clause-record g c =
    let jobs = c.args.jobs.items in
    let units = map (λ history. history.items) c.in-Ok.ended.0.items in
    let done = map (λ work. work.items) c.in-Ok.ended.1.items in
    let r = run_record c.args.geometry c.args.limit c.args.workers jobs units done in
    let of : IsOfWorkers r = subst (λ (js : List Job). IsOfWorkers (run_record c.args.geometry c.args.limit c.args.workers js units done)) c.deref.ensures.value c.in-Ok.ensures.gathered in
    record_of_run c.args.geometry c.args.limit c.args.workers jobs units done of c.done_jobs_are_outcomes.ensures
    (c.gathered_records_are_lawful.ensures of.space of.ports r of.gathered)

pub returns-clause-one_thread : goal.returns-clause-one_thread
returns-clause-one_thread g c unit history at =
    let jobs = c.args.jobs.items in
    let units = map (λ h. h.items) c.in-Ok.ended.0.items in
    let done = map (λ work. work.items) c.in-Ok.ended.1.items in
    let r = run_record c.args.geometry c.args.limit c.args.workers jobs units done in
    let of : IsOfWorkers r = subst (λ (js : List Job). IsOfWorkers (run_record c.args.geometry c.args.limit c.args.workers js units done)) c.deref.ensures.value c.in-Ok.ensures.gathered in
    c.lawful_units_are_runs.ensures r (c.gathered_records_are_lawful.ensures of.space of.ports r of.gathered) unit history at
