use Rattle.std.proofs.Common.{◌≡◌, ◌++◌, ℕ, List, map, take}
use Rattle.nvm_plan.specs.JobPart.{job_units}
use Rattle.nvm_trace.specs.declared.cut.Cut.TheVariants.{InUnit}
use Rattle.nvm_trace.specs.Pieces.{Piece, piece}
use Rattle.nvm_trace.proofs.piecing.put_units.Given as goal

-- The units before those that are left have their pieces.
abbrev pub invariant-loop-unit : goal.invariant-loop-unit
invariant-loop-unit l =
    (done : List ℕ) × (done ++ l.unit-iterator ≡ job_units l.geometry l.traced.job)
    × ((ps : List Piece) → map (λ o. piece o.whole.now o.cut) l.fn.owners.items ≡ take l.most ps
    → map (λ o. piece o.whole.now o.cut) l.owners.items ≡ take l.most (ps ++ map (piece l.traced) (map InUnit done)))
