use Rattle.std.proofs.Common.{◌≡◌, map}
use Rattle.std.specs.List.{filter}
use Rattle.nvm_list.specs.Words.{is, is_word}
use Rattle.nvm_list.specs.Said.{said, said_lines}
use Rattle.nvm_list.specs.Rest.{parts_left, bytes_left}
use Rattle.nvm_list.proofs.said.next_said.Given as goal

abbrev pub invariant-loop-rest : goal.invariant-loop-rest
invariant-loop-rest l = filter is_word (map said (parts_left (is 10) l.rest)) ≡ said_lines l.text

abbrev pub decreases-loop-rest : goal.decreases-loop-rest
decreases-loop-rest l = bytes_left l.rest
