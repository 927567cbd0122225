use Rattle.std.proofs.Common.{◌≡◌}
use Rattle.nvm_store.specs.Inside.Gathered.{numbers_in, AreNumbers}
use Rattle.nvm_store.proofs.blocks.numbers.make_rows.Given as goal

-- Those so far have rows, and all numbers are as they were.
abbrev pub invariant-loop-at : goal.invariant-loop-at
invariant-loop-at l = record {
  sound : AreNumbers l.top l.table.items;
  same : numbers_in l.top l.table.items ≡ numbers_in l.top l.initial.table.items;
}
