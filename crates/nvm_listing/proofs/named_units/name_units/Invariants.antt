use Rattle.std.proofs.Common.{◌≡◌, drop}
use Rattle.nvm_listing.specs.Inside.Named.{named_by_parts}
use Rattle.nvm_listing.proofs.named_units.name_units.Given as goal

-- with the marks of the parts that are left these are all marks
abbrev pub invariant-loop-part : goal.invariant-loop-part
invariant-loop-part l = named_by_parts (drop l.part-index l.parts) l.named.items ≡ named_by_parts l.parts l.fn.named.items
