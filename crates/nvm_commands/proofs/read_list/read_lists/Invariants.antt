use Rattle.std.proofs.Common.{◌≡◌, map, take, string_bytes}
use Rattle.nvm_commands.proofs.read_list.read_lists.Given as goal

abbrev pub invariant-loop-path : goal.invariant-loop-path
invariant-loop-path g l =
    map (λ list. list.path.now) l.lists.items ≡ take l.path-index (map (λ path. string_bytes path) l.paths)
