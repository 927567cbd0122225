use Rattle.std.proofs.Common.{◌≡◌, ◌∷◌, ◌++◌}
use Rattle.nvm_record.specs.Ranges.{cut_ranges, ranges_of}
use Rattle.nvm_store.proofs.Cuts.{IsLowest}
use Rattle.nvm_store.proofs.cut_ranges.lowest_cut.Given as goal

-- It begins no later than those that were seen.
abbrev pub invariant-loop-range : goal.invariant-loop-range
invariant-loop-range l = record {
  split : l.initial.lowest ∷ l.yielded ++ l.range-iterator ≡ cut_ranges l.first l.blocks (ranges_of l.ranges);
  is : IsLowest l.first l.blocks (cut_ranges l.first l.blocks (ranges_of l.ranges)) (l.initial.lowest ∷ l.yielded) l.lowest;
}
