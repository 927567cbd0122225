use Rattle.std.proofs.Common.{◌≡◌, ◌≤◌, ◌+◌, length}
use Rattle.nvm_list.specs.Words.{is}
use Rattle.nvm_list.specs.Lists.{commands}
use Rattle.nvm_list.specs.Rest.{parts_left, bytes_left}
use Rattle.nvm_list.proofs.ListReading.{left}
use Rattle.nvm_list.proofs.lists.commands_of.Given as goal

-- the commands so far and those of what is left are those of the list
abbrev pub invariant-loop-rest : goal.invariant-loop-rest
invariant-loop-rest l = record {
  whole : left l.size (l.line + 1) l.commands.items (parts_left (is 10) l.rest) ≡ commands l.size l.text;
  lines : l.line + bytes_left l.rest ≤ length l.text + 1;
}

abbrev pub decreases-loop-rest : goal.decreases-loop-rest
decreases-loop-rest l = bytes_left l.rest
