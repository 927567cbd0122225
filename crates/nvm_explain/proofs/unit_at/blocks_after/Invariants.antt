use Rattle.std.proofs.Common.{◌≡◌, drop}
use Rattle.nvm_record.specs.Medium.{Medium, zero_medium}
use Rattle.nvm_store.specs.Contents.{Holds, LiesAt}
use Rattle.nvm_store.specs.History.{replay_from, replay_of}
use Rattle.nvm_explain.specs.Reached.{all_succeed}
use Rattle.nvm_explain.proofs.unit_at.blocks_after.Given as goal

-- The unit holds a medium from which the entries that are left lead where all of them do, and succeed where all of them do.
abbrev pub invariant-loop-entry : goal.invariant-loop-entry
invariant-loop-entry l = record {
  place : LiesAt l.fn.place l.blocks;
  medium : Medium;
  held : Holds l.blocks medium;
  left : replay_from l.fn.place.size medium (drop l.entry-index l.entries) ≡ replay_of l.fn.place.size l.entries;
  succeed : all_succeed l.fn.place.size medium (drop l.entry-index l.entries)
      ≡ all_succeed l.fn.place.size (zero_medium l.fn.place.size) l.entries;
}
