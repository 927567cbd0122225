use Rattle.std.proofs.Common.{◌≡◌, ◌-◌, ◌^◌, min, length, take}
use Rattle.std.specs.List.{sum_by}
use Rattle.nvm_plan.proofs.job_list.commands_in.Given as goal

abbrev pub invariant-loop-host : goal.invariant-loop-host
invariant-loop-host l = l.commands ≡ min (sum_by (λ commands. length commands.items) (take l.host-index l.hosts)) (2 ^ 64 - 1)
