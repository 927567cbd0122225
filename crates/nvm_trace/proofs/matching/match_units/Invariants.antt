use Rattle.std.proofs.Common.{◌≡◌, ◌++◌, ◌≤◌, ℕ, List, length, map}
use Rattle.nvm_plan.specs.JobPart.{job_units}
use Rattle.nvm_trace.specs.declared.cut.Cut.TheVariants.{InUnit}
use Rattle.nvm_trace.specs.Inside.Matching.{AreMatched}
use Rattle.nvm_trace.specs.Pieces.{Piece, piece}
use Rattle.nvm_trace.proofs.matching.match_units.Given as goal

-- The units before those that are left are matched.
abbrev pub invariant-loop-unit : goal.invariant-loop-unit
invariant-loop-unit l = record {
  within : length l.owners.items ≤ length l.jobs.items;
  before : (done : List ℕ) × (done ++ l.unit-iterator ≡ job_units l.geometry l.traced.job)
      × ((ps : List Piece) → AreMatched l.geometry ps l.jobs.items (map (λ o. piece o.whole.now o.cut) l.fn.owners.items)
      → AreMatched l.geometry (ps ++ map (piece l.traced) (map InUnit done)) l.jobs.items (map (λ o. piece o.whole.now o.cut) l.owners.items));
}
