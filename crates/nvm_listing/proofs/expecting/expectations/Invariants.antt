use Rattle.std.proofs.Common.{◌≡◌, ◌≤◌, ◌+◌, length}
use Rattle.nvm_list.specs.Rest.{parts_left, bytes_left}
use Rattle.nvm_list.specs.Words.{is}
use Rattle.nvm_listing.specs.Expectations.{expectations, expectations_from}
use Rattle.nvm_listing.proofs.ListLines.{behind}
use Rattle.nvm_listing.proofs.expecting.expectations.Given as goal

-- what was expected so far, and what is left, are those of the list
abbrev pub invariant-loop-rest : goal.invariant-loop-rest
invariant-loop-rest l = record {
  whole : behind l.expectations.items (expectations_from (l.line + 1) (parts_left (is 10) l.rest)) ≡ expectations l.list;
  lines : l.line + bytes_left l.rest ≤ length l.list + 1;
}

abbrev pub decreases-loop-rest : goal.decreases-loop-rest
decreases-loop-rest l = bytes_left l.rest
