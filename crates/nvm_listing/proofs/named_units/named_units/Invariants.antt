use Rattle.std.proofs.Common.{◌≡◌, drop, map}
use Rattle.nvm_listing.specs.Inside.Named.{named_by_workers, named_units}
use Rattle.nvm_listing.proofs.named_units.named_units.Given as goal

-- with the marks of the workers that are left these are all marks
abbrev pub invariant-loop-work : goal.invariant-loop-work
invariant-loop-work l =
    named_by_workers (map (λ work. work.items) (drop l.work-index l.done)) l.named.items
    ≡ named_units l.units (map (λ work. work.items) l.done)
