use Rattle.std.proofs.Common.{◌≡◌, ◌+◌, ◌++◌, length, drop}
use Rattle.nvm_text.specs.Runs.{written_out}
use Rattle.nvm_list.specs.Data.{total}
use Rattle.nvm_list.proofs.data_word.written.Given as goal

abbrev pub invariant-loop-run : goal.invariant-loop-run
invariant-loop-run l = record {
  whole : l.payload.items ++ written_out (drop l.run-index l.runs) ≡ written_out l.runs;
  bound : length l.payload.items + total (drop l.run-index l.runs) ≡ l.bytes;
}
