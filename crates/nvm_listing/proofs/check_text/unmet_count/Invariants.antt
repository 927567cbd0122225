use Rattle.std.proofs.Common.{◌≡◌, take}
use Rattle.nvm_listing.specs.CheckText as spec
use Rattle.nvm_listing.proofs.check_text.unmet_count.Given as goal

abbrev pub invariant-loop-check : goal.invariant-loop-check
invariant-loop-check l = l.count ≡ spec.unmet_count (take l.check-index l.checks)
