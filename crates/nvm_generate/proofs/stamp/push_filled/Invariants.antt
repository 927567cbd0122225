use Rattle.std.proofs.Common.{◌≡◌, ◌++◌, ◌/◌, take}
use Rattle.nvm_generate.specs.Stamp.{filled}
use Rattle.nvm_generate.proofs.stamp.push_filled.Given as goal

abbrev pub invariant-loop-byte : goal.invariant-loop-byte
invariant-loop-byte l = record {
  so_far : l.bytes.items ≡ l.fn.bytes.items ++ filled l.fn.size (take l.byte-index l.fn.named);
  part : l.eighth ≡ l.fn.size / 8;
}
