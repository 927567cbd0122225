use Rattle.std.proofs.Common.{◌++◌, ◌∷◌, [], refl}
use Rattle.nvm_engine.proofs.Brought.{theirs_more, results_more}
use Rattle.nvm_engine.proofs.workers.parted.Goals as goal

pub loop-result-preserved : goal.loop-result-preserved
loop-result-preserved c =
    let so_far = c.loop-result.invariant.so_far in
    let worker = c.in_ok-worker.worker in
    record {
      so_far = (
        so_far.0 ++ worker ∷ [],
        results_more c.args.results.items c.loop-result.result-iterator.rest.items c.next.new.self.rest.items c.in-Some.result so_far.0 worker so_far.1 c.in-Some.ensures.steps.0 c.in_ok-worker.was,
        theirs_more (λ work. work.items) so_far.0 worker _ _ _ _ _ _ worker.done refl c.in_ok-push.ensures.items c.in_ok-push-2.ensures.items c.in_ok-push-3.ensures.items so_far.2,
      );
    }
