use Rattle.std.proofs.Common.{◌≡◌, ◌++◌, drop, map}
use Rattle.nvm_listing.specs.Items.{held_by, entry_items}
use Rattle.nvm_listing.proofs.item.push_history.Given as goal

-- the items so far and those of the entries that are left are all
abbrev pub invariant-loop-place : goal.invariant-loop-place
invariant-loop-place l =
    map held_by l.items.items ++ entry_items l.unit l.place (drop l.place l.history) ≡ map held_by l.fn.items.items ++ entry_items l.unit 0 l.history
