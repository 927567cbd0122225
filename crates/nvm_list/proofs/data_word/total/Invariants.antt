use Rattle.std.proofs.Common.{◌≡◌, ◌≤◌, ◌+◌, ◌*◌, ◌^◌, drop}
use Rattle.nvm_list.specs.Data.{total}
use Rattle.nvm_list.proofs.data_word.total.Given as goal

abbrev pub invariant-loop-run : goal.invariant-loop-run
invariant-loop-run l = record {
  whole : l.total + total (drop l.run-index l.runs) ≡ total l.runs;
  bound : l.total ≤ l.run-index * 2 ^ 64;
}
