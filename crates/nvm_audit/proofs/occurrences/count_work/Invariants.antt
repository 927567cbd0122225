use Rattle.std.proofs.Common.{◌≡◌, ℕ, ◌+◌, List, length, take}
use Rattle.std.specs.List.{count_by}
use Rattle.nvm_record.specs.Lists.{IsAt}
use Rattle.nvm_audit.specs.Inside.Occurrences.{IsCounted}
use Rattle.nvm_audit.specs.RecordedJob.{RecordedJob}
use Rattle.nvm_audit.proofs.Counting.{is_job}
use Rattle.nvm_audit.proofs.occurrences.count_work.Given as goal

abbrev pub invariant-loop-done : goal.invariant-loop-done
invariant-loop-done l = record {
  long : length l.found.items ≡ length l.fn.found.items;
  counted : (all : List (List RecordedJob)) (worker number times : ℕ) → IsAt all worker l.work.items
      → IsCounted all l.fn.found.items number times
      → IsCounted all l.found.items number (times + count_by (is_job number) (take l.done-index l.work.items));
}
