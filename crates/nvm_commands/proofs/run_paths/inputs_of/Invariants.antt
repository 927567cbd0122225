use Rattle.std.proofs.Common.{◌≡◌, take, string_bytes}
use Rattle.std.specs.List.{count_by}
use Rattle.nvm_commands.specs.Standard.{names_input}
use Rattle.nvm_commands.proofs.run_paths.inputs_of.Given as goal

abbrev pub invariant-loop-path : goal.invariant-loop-path
invariant-loop-path l = l.count ≡ count_by (λ path. names_input (string_bytes path)) (take l.path-index l.paths)
