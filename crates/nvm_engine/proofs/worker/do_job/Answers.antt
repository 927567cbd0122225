use Rattle.std.proofs.Common.{◌∙◌, ◌≤◌, Bool, subst, sym}
use Rattle.nvm_geometry.specs.Boundaries.{units_of}
use Rattle.nvm_geometry.specs.Faults.{most_units}
use Rattle.nvm_geometry.specs.Large.{IsLarge}
use Rattle.nvm_space.specs.Trace.{DoesJob}
use Rattle.nvm_unit.specs.Ends.{views_of}
use Rattle.nvm_engine.proofs.Places.{at_index}
use Rattle.nvm_engine.proofs.Recorded.{done_job, so_of_some}
use Rattle.nvm_engine.proofs.worker.do_job.Goals as goal

pub returns-clause-done : goal.returns-clause-done
returns-clause-done g c =
    let ns = c.args.space.now.namespace in
    let jobs = c.args.jobs.now in
    let number = c.args.number in
    let large : IsLarge ns = subst IsLarge c.geometry.ensures c.nsze-nsze.ensures.valid in
    let few : units_of ns ≤ most_units =
    so_of_some (units_of ns ≤ most_units) c.recorded-recorded.result (sym c.recorded-recorded.ensures.lists ∙ c.requires.lists) c.recorded-recorded.ensures.few in
    let job = c.index-jobs-number.result in
    done_job ns jobs number job c.run_job-done.result c.recorded.result _ _
    (c.each_command_has_a_status.ensures.outcome ns job)
    (λ replies told read outcome some. (c.data_comes_with_success.ensures.outcome ns job replies told read outcome some).3)
    (λ unit. c.few_units_are_regions.ensures.unit ns unit large.some few) (at_index jobs number job c.requires.job c.index-jobs-number.is) c.recorded.ensures
    (subst (λ (lists : Bool). DoesJob ns lists number job (views_of c.args.port.now.passes) (views_of c.run_job-done.new.port.passes) c.run_job-done.result) c.requires.lists c.run_job-done.ensures.does)
