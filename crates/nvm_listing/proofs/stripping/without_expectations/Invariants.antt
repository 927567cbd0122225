use Rattle.std.proofs.Common.{◌≡◌, ◌++◌, map}
use Rattle.std.specs.List.{join_with_byte}
use Rattle.nvm_list.specs.Rest.{parts_left, bytes_left}
use Rattle.nvm_list.specs.Words.{is}
use Rattle.nvm_listing.specs.Expectation.{front}
use Rattle.nvm_listing.specs.Expectations.{without_expectations}
use Rattle.nvm_listing.proofs.stripping.without_expectations.Given as goal

-- what was written, and what is left, are the whole text
abbrev pub invariant-loop-rest : goal.invariant-loop-rest
invariant-loop-rest l = l.text.items ++ join_with_byte 10 (map front (parts_left (is 10) l.rest)) ≡ without_expectations l.list

abbrev pub decreases-loop-rest : goal.decreases-loop-rest
decreases-loop-rest l = bytes_left l.rest
