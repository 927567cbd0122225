use Rattle.std.proofs.Common.{◌≡◌, ◌++◌, take, map}
use Rattle.nvm_trace.specs.Steps.{steps_of_work}
use Rattle.nvm_trace.proofs.stepping.put_work.Given as goal

abbrev pub invariant-loop-k : goal.invariant-loop-k
invariant-loop-k l = l.steps.items ≡ l.fn.steps.items ++ steps_of_work (map (λ o. o.whole.now) l.owners.items) (take l.k l.work.items)
