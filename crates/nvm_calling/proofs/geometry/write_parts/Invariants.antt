use Rattle.std.proofs.Common.{◌≡◌, ◌+◌, ◌*◌, ◌-◌, ◌≤◌, ◌++◌, length, map, take}
use Rattle.std.specs.List.{All, flat_map}
use Rattle.nvm_geometry.specs.Parts.{pieces_of, AreInLine}
use Rattle.nvm_calling.proofs.geometry.write_parts.Given as goal

-- The parts so far have the first pieces, and the data of the blocks that were skipped; the other pieces go on behind these.
abbrev pub invariant-loop-piece : goal.invariant-loop-piece
invariant-loop-piece l = record {
  pieces : map (λ part. part.piece) l.parts.items ++ l.piece-iterator ≡ pieces_of l.fn.geometry l.slba l.blocks;
  few : l.skipped ≤ l.blocks;
  line : AreInLine (l.slba + l.skipped) (l.blocks - l.skipped) l.piece-iterator;
  sizes : All (λ part. length part.payload ≡ part.piece.blocks * l.size) l.parts.items;
  written : flat_map (λ part. part.payload) l.parts.items ≡ take (l.skipped * l.size) l.payload;
}
