use Rattle.std.proofs.Common.{◌≡◌, length}
use Rattle.nvm_commands.proofs.front.arguments.paths_named.Given as goal

abbrev pub invariant-loop-text : goal.invariant-loop-text
invariant-loop-text l = length l.strings.items ≡ l.text-index
