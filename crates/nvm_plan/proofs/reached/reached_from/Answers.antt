use Rattle.nvm_plan.proofs.ReachedLbas as lbas
use Rattle.nvm_plan.proofs.reached.reached_from.Goals as goal

pub lowest_reached-requires : goal.lowest_reached-requires
lowest_reached-requires c =
    let ns = c.args.geometry.now in
    let job = c.args.job.now in
    lbas.ends_low ns job c.reach_of.result (c.ready_jobs.ensures.operation ns job c.requires) (c.reach_of.ensures ns)
    (λ op. c.ready_jobs.ensures.range ns job op c.requires) (λ op rs. c.ready_jobs.ensures.ranges ns job op rs c.requires)
    c.nsze-nsze.ensures.valid.size

pub returns : goal.returns
returns c =
    let ns = c.args.geometry.now in
    let job = c.args.job.now in
    lbas.reached_from ns job c.reach_of.result (c.ready_jobs.ensures.operation ns job c.requires) (c.reach_of.ensures ns)
    (λ op. c.ready_jobs.ensures.range ns job op c.requires) (λ op rs. c.ready_jobs.ensures.ranges ns job op rs c.requires)
    c.args.from c.lowest_reached.result (c.the_lowest_lba_is_met_first.ensures.first ns) (c.the_lowest_lba_is_met_first.ensures.none ns)
    (λ op. c.parts_of_jobs.ensures.units ns job op c.requires) c.lowest_reached.ensures
