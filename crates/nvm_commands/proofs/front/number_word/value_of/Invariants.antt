use Rattle.std.proofs.Common.{◌≡◌, ◌<◌, drop}
use Rattle.nvm_commands.specs.Numbers.{value_after}
use Rattle.nvm_commands.proofs.front.number_word.value_of.Given as goal

abbrev pub invariant-loop-byte : goal.invariant-loop-byte
invariant-loop-byte l = record {
  value : value_after l.radix l.value (drop l.byte-index l.digits) ≡ value_after l.radix 0 l.digits;
  fits : l.value < 18446744073709551616;
}
