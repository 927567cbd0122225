-- The answers of a record's jobs are made one job after the other.
use Rattle.std.proofs.Common.{refl}
use Rattle.nvm_audit.proofs.DoneWalk.{Making}
use Rattle.nvm_listing.specs.Answers.{Answered, answers_of, job_answers}

abbrev pub answers_made : Making (Unit {0}) Answered
answers_made = record {
  made = λ s job d. job_answers job d;
  left = λ s job. s;
  all = λ s jobs its. answers_of jobs its;
  none = λ s. refl;
  more = λ s job jobs d its. refl;
}
