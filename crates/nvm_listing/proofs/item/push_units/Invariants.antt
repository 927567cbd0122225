use Rattle.std.proofs.Common.{◌≡◌, ◌++◌, drop, map}
use Rattle.nvm_listing.specs.Items.{held_by, unit_items}
use Rattle.nvm_listing.proofs.item.push_units.Given as goal

-- the items so far and those of the units that are left are all
abbrev pub invariant-loop-unit : goal.invariant-loop-unit
invariant-loop-unit l =
    map held_by l.items.items ++ unit_items l.unit (map (λ history. history.items) (drop l.unit l.units))
    ≡ map held_by l.fn.items.items ++ unit_items 0 (map (λ history. history.items) l.units)
