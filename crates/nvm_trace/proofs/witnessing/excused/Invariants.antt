use Rattle.std.proofs.Common.{◌≡◌, ◌≤◌, take}
use Rattle.std.specs.Prelude.{not, count_by}
use Rattle.nvm_trace.specs.Saying.{says_what_was_done}
use Rattle.nvm_trace.proofs.witnessing.excused.Given as goal

abbrev pub invariant-loop-job : goal.invariant-loop-job
invariant-loop-job l = record {
  is : l.excused ≡ count_by (λ j. not (says_what_was_done l.geometry j)) (take l.job-index l.traced.items);
  few : l.excused ≤ l.job-index;
}
