use Rattle.std.proofs.Common.{◌≡◌}
use Rattle.std.specs.List.{flat_map}
use Rattle.nvm_plan.specs.Jobs.{commands_of}
use Rattle.nvm_generate.proofs.loads.commands_of_jobs.Given as goal

abbrev pub invariant-loop-job : goal.invariant-loop-job
invariant-loop-job l = l.commands.items ≡ flat_map commands_of l.yielded
