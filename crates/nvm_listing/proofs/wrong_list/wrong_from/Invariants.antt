use Rattle.std.proofs.Common.{◌≡◌, ◌≤◌, ◌+◌, ◌++◌, length}
use Rattle.nvm_list.specs.Words.{is}
use Rattle.nvm_list.specs.Rest.{parts_left, bytes_left}
use Rattle.nvm_listing.specs.WrongLines as spec
use Rattle.nvm_listing.proofs.wrong_list.wrong_from.Given as goal

-- the wrong lines so far and those of what is left are all
abbrev pub invariant-loop-rest : goal.invariant-loop-rest
invariant-loop-rest l = record {
  whole : l.wrong.items ++ spec.wrong_from l.size (l.line + 1) (l.before + 1) (parts_left (is 10) l.rest) ≡ spec.wrong_lines l.size l.text;
  lines : l.line + bytes_left l.rest ≤ length l.text + 1;
  few : l.before ≤ l.line;
}

abbrev pub decreases-loop-rest : goal.decreases-loop-rest
decreases-loop-rest l = bytes_left l.rest
