use Rattle.std.proofs.Common.{◌≡◌, drop}
use Rattle.nvm_commands.specs.Numbers.{are_digits}
use Rattle.nvm_commands.proofs.front.number_word.is_numeral.Given as goal

abbrev pub invariant-loop-byte : goal.invariant-loop-byte
invariant-loop-byte l = are_digits l.radix (drop l.byte-index l.digits) ≡ are_digits l.radix l.digits
