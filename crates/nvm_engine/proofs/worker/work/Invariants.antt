use Rattle.std.proofs.Common.{◌≡◌, ◌<◌, All}
use Rattle.nvm_unit.specs.Ends.{views_of}
use Rattle.nvm_space.specs.Ports.{IsPortOf}
use Rattle.nvm_engine.specs.DoneJobs.{HaveDone}
use Rattle.nvm_engine.specs.Inside.Working.{numbers_of}
use Rattle.nvm_engine.proofs.worker.work.Given as goal

-- The worker has done exactly the jobs that it drew, by its port.
abbrev pub invariant-loop : goal.invariant-loop
invariant-loop g l = record {
  turns : (goal.iterator-loop g).can_next l.iterator' × (goal.iterator-loop g).is_finite l.iterator';
  claim : l.claim.table ≡ l.counter.table;
  drawn : l.claim.drawn ≡ numbers_of l.done.items;
  jobs_alone : All (λ x. x < l.counter.jobs) (numbers_of l.done.items);
  of : IsPortOf l.space l.port;
  number : l.port.number ≡ l.fn.port.number;
  done : HaveDone l.space.namespace l.jobs l.done.items (views_of l.fn.port.passes) (views_of l.port.passes);
}
