use Rattle.nvm_store.specs.Contents.{Holds, LiesAt}
use Rattle.nvm_store.specs.Place.{place_at}
use Rattle.nvm_store.specs.Point.{point}
use Rattle.nvm_store.proofs.history.replay.Given as goal

-- The unit holds the point that is reached.
abbrev pub invariant-loop-entry : goal.invariant-loop-entry
invariant-loop-entry l = record {
  place : LiesAt (place_at l.fn.first l.fn.blocks l.fn.size) l.unit;
  replayed : Holds l.unit (point l.fn.size l.history.items l.entry-index);
}
