use Rattle.std.proofs.Common.{◌≡◌, ◌+◌, ◌≤◌, true}
use Rattle.nvm_record.specs.Medium.{Medium}
use Rattle.nvm_record.specs.Ranges.{ranges_of}
use Rattle.nvm_store.specs.Contents.{Holds, StaysInPlace}
use Rattle.nvm_store.specs.Inside.Memory.{unit_from}
use Rattle.nvm_store.specs.Inside.Sound.{AreSound}
use Rattle.nvm_store.proofs.Cuts.{swept}
use Rattle.nvm_store.proofs.unit_blocks.clear_runs.Given as goal

-- Below `from` all is cleared that is to be, and from there on nothing.
abbrev pub invariant-loop-run : goal.invariant-loop-run
invariant-loop-run l = record {
  own : l.fn.blocks.own ≡ true → l.blocks.own ≡ true;
  sound : AreSound l.start l.blocks.size l.blocks.list;
  place : StaysInPlace (unit_from l.start l.fn.blocks) (unit_from l.start l.blocks);
  low : l.first ≤ l.from;
  end : l.from + l.left ≡ l.first + l.count;
  held : (m : Medium) → Holds (unit_from l.start l.fn.blocks) m
      → Holds (unit_from l.start l.blocks) (swept l.fn.blocks.size (ranges_of l.ranges) l.first l.from m);
}

abbrev pub decreases-loop-run : goal.decreases-loop-run
decreases-loop-run l = l.left
