use Rattle.std.proofs.Common.{◌≡◌, ◌+◌, ◌≤◌, drop, length}
use Rattle.nvm_audit.specs.Recordable.{most_workers}
use Rattle.nvm_explain.specs.Distinct.{workers_in}
use Rattle.nvm_explain.proofs.Seen.{unseen_of}
use Rattle.nvm_explain.proofs.unit_counts.workers_in.Given as goal

-- the workers so far, and those of the entries that are left which weren't seen, are all
abbrev pub invariant-loop-entry : goal.invariant-loop-entry
invariant-loop-entry l =
    (l.count + length (unseen_of l.seen (drop l.entry-index l.history)) ≡ workers_in l.history)
    × (l.count ≤ l.entry-index) × (length l.seen ≡ most_workers)
