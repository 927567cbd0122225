use Rattle.std.proofs.Common.{◌<◌, ◌≤◌, length, subst, arith, rules}
use Rattle.std.proofs.lemmas.Bool.{ltb-true}
use Rattle.nvm_record.specs.Lists.{IsAt}
use Rattle.nvm_plan.specs.declared.job.Job.{Job}
use Rattle.nvm_trace.specs.Pieces.{job_at}
use Rattle.nvm_trace.proofs.Places.{below, one_there, stands_read}
use Rattle.nvm_trace.proofs.matching.has_piece.Goals as goal

pub returns-then-place-len : goal.returns-then-place-len
returns-then-place-len c =
    let jobs = c.args.jobs.now.items in
    let place = c.args.place in
    let job : Job = job_at c.args.geometry.now c.args.whole.now c.args.cut in
    let low : place < length jobs = search rules in
    let there = stands_read jobs place c.index.result.now low c.index.ensures in (
      λ t. subst (λ (j : Job). IsAt jobs place j) (c.is_piece.ensures.0 t) there,
      λ at. c.is_piece.ensures.1 (one_there jobs place c.index.result.now job there at),
    )

pub returns-else-place-len : goal.returns-else-place-len
returns-else-place-len c =
    let jobs = c.args.jobs.now.items in
    let job : Job = job_at c.args.geometry.now c.args.whole.now c.args.cut in
    let high : length jobs ≤ c.args.place = search rules in (
      λ t. let low = ltb-true c.args.place c.len.result t in absurd (omega (arith, low, high, c.len.ensures)),
      λ at. let low = below jobs c.args.place job at in absurd (omega (arith, low, high)),
    )
