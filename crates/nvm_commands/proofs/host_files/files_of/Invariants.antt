use Rattle.std.proofs.Common.{map, take}
use Rattle.nvm_commands.specs.Ran.{AreFilesOf}
use Rattle.nvm_commands.proofs.host_files.files_of.Given as goal

abbrev pub invariant-loop-list : goal.invariant-loop-list
invariant-loop-list l = AreFilesOf l.size (take l.list-index (map (λ list. list.text.items) l.lists)) l.files.items
