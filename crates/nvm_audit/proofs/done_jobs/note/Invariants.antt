use Rattle.std.proofs.Common.{List}
use Rattle.nvm_record.specs.Lists.{IsAt}
use Rattle.nvm_audit.specs.RecordedJob.{RecordedJob}
use Rattle.nvm_audit.proofs.Noting.{IsNoting}
use Rattle.nvm_audit.proofs.done_jobs.note.Given as goal

abbrev pub invariant-loop-place : goal.invariant-loop-place
invariant-loop-place l = (done : List (List RecordedJob)) → IsAt done l.worker l.work → IsNoting done l.work l.fn.places l.places l.place
