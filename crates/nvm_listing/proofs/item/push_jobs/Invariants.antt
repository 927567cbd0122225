use Rattle.std.proofs.Common.{◌≡◌, ◌++◌, drop, map}
use Rattle.nvm_listing.specs.Items.{held_by, job_items}
use Rattle.nvm_listing.proofs.item.push_jobs.Given as goal

-- the items so far and those of the jobs that are left are all
abbrev pub invariant-loop-number : goal.invariant-loop-number
invariant-loop-number l =
    map held_by l.items.items ++ job_items l.number (drop l.number l.jobs) ≡ map held_by l.fn.items.items ++ job_items 0 l.jobs
