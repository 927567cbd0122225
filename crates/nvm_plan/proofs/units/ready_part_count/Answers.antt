use Rattle.std.proofs.Common.{sym, ap, ◌∙◌, length}
use Rattle.nvm_plan.proofs.ReachOfJobs.{range_inside, range_units}
use Rattle.nvm_plan.proofs.units.ready_part_count.Goals as goal

pub piece_count-requires : goal.piece_count-requires
piece_count-requires c =
    range_inside c.args.geometry.now c.args.job.now c.reach_of.result (c.ready_jobs.ensures.operation c.args.geometry.now c.args.job.now c.requires)
    (c.reach_of.ensures c.args.geometry.now) c.in-Range.first c.in-Range.blocks c.in-Range.is (λ op. c.ready_jobs.ensures.range c.args.geometry.now c.args.job.now op c.requires)

pub returns-in-Range-clause-value : goal.returns-in-Range-clause-value
returns-in-Range-clause-value c =
    c.piece_count.ensures.value ∙ ap length (sym (range_units c.args.geometry.now c.args.job.now c.reach_of.result
    (c.ready_jobs.ensures.operation c.args.geometry.now c.args.job.now c.requires) (c.reach_of.ensures c.args.geometry.now) c.in-Range.first c.in-Range.blocks c.in-Range.is
    (λ op. c.parts_of_jobs.ensures.units c.args.geometry.now c.args.job.now op c.requires) (c.whole_ranges_are_reached.ensures.units c.args.geometry.now)))
