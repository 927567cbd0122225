use Rattle.std.proofs.Common.{◌≡◌, ◌++◌, ℕ, ◌+◌, ◌≤◌, map}
use Rattle.nvm_geometry.specs.Parts.{pieces_of, AreInLine}
use Rattle.nvm_standard.specs.PointView.{seen, seen_found}
use Rattle.nvm_standard.specs.Rows.{find_in_unit}
use Rattle.nvm_standard.proofs.rows.put_units.Given as goal

-- The pieces that are left follow, and with theirs the points are all.
abbrev pub invariant-loop-piece : goal.invariant-loop-piece
invariant-loop-piece l =
    (left : ℕ) × AreInLine l.first left l.piece-iterator
    × (l.first + left ≡ l.run.first + l.run.blocks)
    × (l.run.first ≤ l.first)
    × (map seen l.points.items ++ map (find_in_unit l.size l.doer l.run.first (seen_found l.found)) l.piece-iterator
    ≡ map seen l.fn.points.items
    ++ map (find_in_unit l.geometry.block_size l.doer l.run.first (seen_found l.found)) (pieces_of l.geometry l.run.first l.run.blocks))
