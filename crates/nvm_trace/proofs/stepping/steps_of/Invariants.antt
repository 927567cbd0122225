use Rattle.std.proofs.Common.{◌≡◌, map, take}
use Rattle.nvm_trace.specs.Steps.{steps_of}
use Rattle.nvm_trace.proofs.stepping.steps_of.Given as goal

abbrev pub invariant-loop-worker : goal.invariant-loop-worker
invariant-loop-worker l = l.steps.items ≡ steps_of (map (λ o. o.whole.now) l.owners.items) (take l.worker (map (λ work. work.items) l.done.items))
