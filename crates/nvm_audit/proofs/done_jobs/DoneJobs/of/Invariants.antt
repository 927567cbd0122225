use Rattle.std.proofs.Common.{◌≡◌, length}
use Rattle.nvm_audit.specs.Inside.Noted.{AreNoted}
use Rattle.nvm_audit.proofs.done_jobs.DoneJobs.of.Given as goal

abbrev pub invariant-loop-worker : goal.invariant-loop-worker
invariant-loop-worker l = (length l.places.items ≡ l.jobs) × AreNoted l.worker l.run.done l.places.items
