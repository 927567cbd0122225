use Rattle.std.proofs.Common.{map, take}
use Rattle.std.specs.List.{flat_map}
use Rattle.nvm_trace.specs.Pieces.{piece}
use Rattle.nvm_trace.specs.Inside.Replies.{IsLeastWrong}
use Rattle.nvm_trace.proofs.replies.first_differing.Given as goal

abbrev pub invariant-loop-worker : goal.invariant-loop-worker
invariant-loop-worker l =
    IsLeastWrong l.geometry (map (λ o. piece o.whole.now o.cut) l.owners.items) (flat_map (λ work. work) (take l.worker (map (λ work. work.items) l.done.items))) l.least
