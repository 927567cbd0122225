use Rattle.std.proofs.Common.{◌≡◌}
use Rattle.nvm_plan.proofs.WaitingHosts.{queue_of, numbered_of}
use Rattle.nvm_plan.proofs.job_list.numbered.Given as goal

abbrev pub invariant-loop-place : goal.invariant-loop-place
invariant-loop-place l = queue_of l.waiting.items ≡ numbered_of l.yielded
