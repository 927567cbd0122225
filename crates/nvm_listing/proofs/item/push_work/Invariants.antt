use Rattle.std.proofs.Common.{◌≡◌, ◌++◌, drop, map}
use Rattle.nvm_listing.specs.Items.{held_by, done_items}
use Rattle.nvm_listing.proofs.item.push_work.Given as goal

-- the items so far and those of the done jobs that are left are all
abbrev pub invariant-loop-done : goal.invariant-loop-done
invariant-loop-done l =
    map held_by l.items.items ++ done_items l.worker (drop l.done-index l.work) ≡ map held_by l.fn.items.items ++ done_items l.worker l.work
