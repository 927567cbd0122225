use Rattle.std.proofs.Common.{◌≡◌, ◌++◌, ◌∷◌, [], ℕ, List, map, take, subst}
use Rattle.nvm_plan.specs.JobPart.{job_units}
use Rattle.nvm_trace.specs.Pieces.{Piece, piece}
use Rattle.nvm_trace.proofs.UnitPieces.{in_units, split_more, pieces_more}
use Rattle.nvm_trace.proofs.piecing.put_units.Goals as goal

pub loop-unit-preserved : goal.loop-unit-preserved
loop-unit-preserved c =
    let traced = c.args.traced.now in
    let all : List ℕ = job_units c.args.geometry.now traced.job in
    let before = c.loop-unit.invariant in
    let done : List ℕ = before.0 in
    let unit : ℕ = c.in-Some.unit in
    let after : List ℕ = c.next.new.self in
    let rest : List ℕ = c.loop-unit.unit-iterator in (
      done ++ unit ∷ [],
      split_more done unit after rest all c.in-Some.ensures.steps before.1,
      (λ ps topped.
          subst (λ (qs : List Piece). map (λ o. piece o.whole.now o.cut) c.put_piece.new.owners.items ≡ take c.args.most qs)
          (pieces_more done unit after rest all c.in-Some.ensures.steps before.1 ps traced)
          (c.in_ok-put_piece.ensures (ps ++ in_units traced done) (before.2 ps topped))),
    )
