use Rattle.std.proofs.Common.{◌+◌, length, map}
use Rattle.std.specs.List.{sum_by}
use Rattle.nvm_plan.proofs.WaitingHosts.{queue_of}
use Rattle.nvm_plan.proofs.Midway.{IsMidway}
use Rattle.nvm_plan.proofs.job_list.jobs.Given as goal

abbrev pub invariant-loop-next : goal.invariant-loop-next
invariant-loop-next l = IsMidway (map (λ v. v.items) l.fn.hosts.items) (queue_of l.waiting.items) l.jobs.items

-- each host and each command that waits
abbrev pub decreases-loop-next : goal.decreases-loop-next
decreases-loop-next l = sum_by (λ w. length w.commands.items + 1) l.waiting.items
