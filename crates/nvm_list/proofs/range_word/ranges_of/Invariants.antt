use Rattle.std.proofs.Common.{◌≡◌}
use Rattle.nvm_list.specs.Words.{is}
use Rattle.nvm_list.specs.Commas.{read_each, read_parts}
use Rattle.nvm_list.specs.Ranges.{read_range}
use Rattle.nvm_list.specs.Rest.{parts_left, bytes_left}
use Rattle.nvm_list.proofs.PartReading.{behind}
use Rattle.nvm_list.proofs.range_word.ranges_of.Given as goal

-- the ranges so far and those of what is left are those of the word
abbrev pub invariant-loop-rest : goal.invariant-loop-rest
invariant-loop-rest l = behind l.ranges.items (read_each read_range (parts_left (is 44) l.rest)) ≡ read_parts read_range l.word

abbrev pub decreases-loop-rest : goal.decreases-loop-rest
decreases-loop-rest l = bytes_left l.rest
