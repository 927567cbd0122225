use Rattle.std.proofs.Common.{◌≡◌, ◌++◌, drop, map}
use Rattle.nvm_listing.specs.Items.{held_by, worker_items}
use Rattle.nvm_listing.proofs.item.push_workers.Given as goal

-- the items so far and those of the workers that are left are all
abbrev pub invariant-loop-worker : goal.invariant-loop-worker
invariant-loop-worker l =
    map held_by l.items.items ++ worker_items l.worker (map (λ work. work.items) (drop l.worker l.done))
    ≡ map held_by l.fn.items.items ++ worker_items 0 (map (λ work. work.items) l.done)
