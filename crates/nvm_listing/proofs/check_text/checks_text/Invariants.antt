use Rattle.std.proofs.Common.{◌≡◌, ◌++◌, drop, string_bytes}
use Rattle.nvm_listing.specs.CheckText.{unmet_lines}
use Rattle.nvm_listing.proofs.check_text.checks_text.Given as goal

abbrev pub invariant-loop-check : goal.invariant-loop-check
invariant-loop-check l = string_bytes l.text ++ unmet_lines (drop l.check-index l.checks) ≡ unmet_lines l.checks
