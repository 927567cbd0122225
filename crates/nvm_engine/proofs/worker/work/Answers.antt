use Rattle.std.proofs.Common.{◌≡◌, ℕ, ◌<◌, ◌∙◌, List, All, subst}
use Rattle.nvm_unit.specs.Ends.{views_of}
use Rattle.nvm_engine.specs.Inside.Working.{numbers_of}
use Rattle.nvm_engine.proofs.Working.{work_more, drawn_more}
use Rattle.nvm_engine.proofs.worker.work.Goals as goal

pub loop-preserved : goal.loop-preserved
loop-preserved g c =
    let inv = c.loop.invariant in
    let work = c.loop.done.items in
    let after = c.push_reserved.new.self.items in
    let job = c.do_job.result in
    let drawn : c.draw.new.claim.drawn ≡ numbers_of after =
    drawn_more work c.reserve.new.self.items after job c.in-Some-draw.number c.loop.claim.drawn c.draw.new.claim.drawn c.reserve.ensures.items c.push_reserved.ensures.items c.do_job.ensures.job
    inv.drawn c.in-Some-draw.ensures.job.1 in
    record {
      turns = inv.turns;
      claim = c.draw.ensures.of ∙ inv.claim;
      drawn = drawn;
      jobs_alone = subst (λ (numbers : List ℕ). All (λ x. x < c.args.counter.now.jobs) numbers) drawn c.in-Some-draw.ensures.goes_on;
      of = c.do_job.ensures.of;
      number = c.do_job.ensures.number ∙ inv.number;
      done = work_more c.args.space.now.namespace c.args.jobs.now work c.reserve.new.self.items after job (views_of c.args.port.passes) (views_of c.loop.port.passes) (views_of c.do_job.new.port.passes)
          c.reserve.ensures.items c.push_reserved.ensures.items inv.done c.do_job.ensures.done;
    }
