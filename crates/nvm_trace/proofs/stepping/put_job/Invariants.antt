use Rattle.std.proofs.Common.{◌≡◌, ◌++◌, take, map}
use Rattle.std.specs.List.{flat_map}
use Rattle.nvm_trace.specs.Steps.{steps_of_part, times_of}
use Rattle.nvm_trace.proofs.stepping.put_job.Given as goal

abbrev pub invariant-loop-i : goal.invariant-loop-i
invariant-loop-i l =
    l.steps.items ≡ l.fn.steps.items ++ flat_map (steps_of_part (times_of (map (λ o. o.whole.now) l.owners.items) l.done.job) l.done.job) (take l.i l.done.parts)
