use Rattle.std.proofs.Common.{◌≡◌, ◌∙◌, length, sym, ap}
use Rattle.std.proofs.lemmas.Result.{IfOk-weaker}
use Rattle.nvm_engine.specs.Counters.{ClaimView}
use Rattle.nvm_engine.proofs.Started.{given_at, all_have_worked}
use Rattle.nvm_engine.proofs.workers.all_work.Goals as goal

pub map_vec-requires-after_bounds : goal.map_vec-requires-after_bounds
map_vec-requires-after_bounds g c κs within i pair below read =
    let given = given_at c.args.space.now c.args.counter.now.table c.args.claims.items c.args.ports.items c.in_ok-given.given.items i pair c.requires.claims c.in_ok-given.ensures below read in
    (ap (λ (claim : ClaimView). claim.table) given.0, (ap (λ (claim : ClaimView). claim.drawn) given.0, (c.requires.jobs, ((c.requires.all.each i pair.1 given.1).0, (c.requires.lists, c.requires.fit)))))

pub returns : goal.returns
returns g c =
    let pairs = c.in_ok-given.given in
    let results = c.in_ok-results.results in
    let counts : length results.items ≡ length pairs.items = sym results.ok.0 ∙ c.in_ok-results.ensures.len ∙ pairs.ok.0 in
    IfOk-weaker c.parted.result _ _
    (λ b brought. (
      brought.0,
      all_have_worked c.args.counter.now c.args.space.now c.args.jobs.now c.args.counter.now.table c.args.claims.items c.args.ports.items pairs.items results.items brought.0
          c.requires.claims c.requires.ports c.requires.all c.in_ok-given.ensures counts brought.1
          (λ i d below. let call = (c.in_ok-results.ensures.each i d below).1 in (call.job, call.job_read, call.call.met)),
      brought.2,
    ))
    c.parted.ensures
