use Rattle.std.proofs.Common.{◌≡◌, ◌++◌, List, map, Ok}
use Rattle.nvm_engine.specs.declared.worker.Worker.{Worker}
use Rattle.nvm_engine.specs.Inside.Working.{AreTheirs}
use Rattle.nvm_engine.proofs.workers.parted.Given as goal

-- What the workers so far brought back, and the results that are left.
abbrev pub invariant-loop-result : goal.invariant-loop-result
invariant-loop-result l = record {
  so_far : (workers : List Worker) × (l.fn.results.items ≡ map Ok workers ++ l.result-iterator.rest.items)
      × AreTheirs workers l.claims.items l.ports.items (map (λ work. work.items) l.done.items);
}
