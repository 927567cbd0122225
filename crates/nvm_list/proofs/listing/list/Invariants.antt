use Rattle.std.proofs.Common.{◌≡◌, ◌+◌, ◌++◌, drop, string_bytes}
use Rattle.std.specs.List.{AllByRecursion}
use Rattle.nvm_list.specs.Listing.{listing, listing_from}
use Rattle.nvm_list.specs.Inside.Values.{HasValuesInRange}
use Rattle.nvm_list.proofs.listing.list.Given as goal

abbrev pub invariant-loop-before : goal.invariant-loop-before
invariant-loop-before l = record {
  whole : string_bytes l.text ++ listing_from (l.before + 1) (drop l.before l.commands) ≡ listing l.commands;
  ranges : AllByRecursion HasValuesInRange (drop l.before l.commands) → AllByRecursion HasValuesInRange l.commands;
}
