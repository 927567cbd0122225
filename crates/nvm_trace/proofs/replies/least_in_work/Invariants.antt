use Rattle.std.proofs.Common.{◌++◌, List, take, map}
use Rattle.nvm_audit.specs.RecordedJob.{RecordedJob}
use Rattle.nvm_trace.specs.Pieces.{piece}
use Rattle.nvm_trace.specs.Inside.Replies.{IsLeastWrong}
use Rattle.nvm_trace.proofs.replies.least_in_work.Given as goal

abbrev pub invariant-loop-k : goal.invariant-loop-k
invariant-loop-k l =
    (seen : List RecordedJob) → IsLeastWrong l.geometry (map (λ o. piece o.whole.now o.cut) l.owners.items) seen l.fn.least
    → IsLeastWrong l.geometry (map (λ o. piece o.whole.now o.cut) l.owners.items) (seen ++ take l.k l.work.items) l.least
