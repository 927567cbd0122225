use Rattle.std.proofs.Common.{◌≡◌}
use Rattle.nvm_list.specs.Words.{is}
use Rattle.nvm_list.specs.Commas.{read_each, read_parts}
use Rattle.nvm_list.specs.Data.{read_run}
use Rattle.nvm_list.specs.Rest.{parts_left, bytes_left}
use Rattle.nvm_list.proofs.PartReading.{behind}
use Rattle.nvm_list.proofs.data_word.runs_of.Given as goal

-- the runs so far and those of what is left are those of the word
abbrev pub invariant-loop-rest : goal.invariant-loop-rest
invariant-loop-rest l = behind l.runs.items (read_each read_run (parts_left (is 44) l.rest)) ≡ read_parts read_run l.word

abbrev pub decreases-loop-rest : goal.decreases-loop-rest
decreases-loop-rest l = bytes_left l.rest
