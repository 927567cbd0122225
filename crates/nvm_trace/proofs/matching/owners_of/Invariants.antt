use Rattle.std.proofs.Common.{◌≤◌, length, map, take}
use Rattle.nvm_trace.specs.Inside.Matching.{AreMatched}
use Rattle.nvm_trace.specs.Pieces.{piece, pieces_in}
use Rattle.nvm_trace.proofs.matching.owners_of.Given as goal

abbrev pub invariant-loop-number : goal.invariant-loop-number
invariant-loop-number l = record {
  within : length l.owners.items ≤ length l.jobs.items;
  matched : AreMatched l.geometry (pieces_in l.judging l.geometry l.reads (take l.number l.traced.items)) l.jobs.items (map (λ o. piece o.whole.now o.cut) l.owners.items);
}
