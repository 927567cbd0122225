use Rattle.std.proofs.Common.{◌≡◌, ◌-◌, ◌≤◌, map, All}
use Rattle.std.specs.List.{flat_map, range_with_len}
use Rattle.nvm_plan.specs.Jobs.{commands_of}
use Rattle.nvm_generate.specs.Load.{IsJobOfLoad}
use Rattle.nvm_generate.specs.Inside.Asking.{IsAsking}
use Rattle.nvm_generate.proofs.loads.jobs_of_load.Given as goal

abbrev pub invariant-loop-before : goal.invariant-loop-before
invariant-loop-before l = record {
  jobs : All (IsJobOfLoad l.load l.host) l.jobs.items;
  cids : map (λ c. c.cid) (flat_map commands_of l.jobs.items) ≡ range_with_len 1 l.before;
  few : l.before ≤ l.load.commands;
  sound : IsAsking l.load l.asking;
}

abbrev pub decreases-loop-before : goal.decreases-loop-before
decreases-loop-before l = l.load.commands - l.before
