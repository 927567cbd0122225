use Rattle.std.proofs.Common.{◌≡◌, length, map, string_bytes}
use Rattle.nvm_commands.specs.Generated.{AreListsOfLoad}
use Rattle.nvm_commands.proofs.generating.lists_of.Given as goal

abbrev pub invariant-loop-before : goal.invariant-loop-before
invariant-loop-before l = record {
  lists : AreListsOfLoad l.load 1 (map (λ text. string_bytes text) l.texts.items);
  long : length l.texts.items ≡ l.before;
}
