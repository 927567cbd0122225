-- The checks of a record's jobs are made one job after the other.
use Rattle.std.proofs.Common.{map, refl}
use Rattle.nvm_audit.proofs.DoneWalk.{Making}
use Rattle.nvm_listing.specs.Checks.{Lists, behind_body, checks_in, checks_of}
use Rattle.nvm_listing.specs.declared.check.Check.{Check}

abbrev pub checks_made : Making Lists Check
checks_made = record {
  made = λ lists job d. checks_in lists job.host job.body d.statuses;
  left = λ lists job. behind_body lists job.host job.body;
  all = λ lists jobs its. checks_of lists jobs (map (λ d. d.statuses) its);
  none = λ lists. refl;
  more = λ lists job jobs d its. refl;
}
