-- The traced jobs of which the pieces are.
use Rattle.std.proofs.Common.{◌≡◌, Contains, subst, ◌∙◌}
use Rattle.nvm_trace.specs.declared.judging.Judging.{Judging}
use Rattle.nvm_trace.specs.declared.traced_job.TracedJob.{TracedJob}
use Rattle.nvm_trace.specs.Pieces.{Piece, piece, cuts_of, pieces_of, pieces, wholes}
use Rattle.nvm_trace.specs.TraceView.{TraceView}
use Rattle.nvm_trace.proofs.Places.{contained, placed, out_of_flat, out_of_map}

-- Each is one of the trace's.
pub whole_traced : (judging : Judging) (t : TraceView) (j : TracedJob) → Contains (wholes judging t) j → Contains t.jobs j
whole_traced judging t j has =
    let at = placed (wholes judging t) j has in
    let p = out_of_map (λ (p : Piece). p.whole) (pieces judging t) at.0 j at.1 in
    let of = out_of_flat (pieces_of judging t.namespace t.reads) t.jobs p.0 (contained (pieces judging t) at.0 p.0 p.1) in
    let there = placed (pieces_of judging t.namespace t.reads of.1) p.0 of.3 in
    let cut = out_of_map (piece of.1) (cuts_of judging t.namespace t.reads of.1) there.0 p.0 there.1 in
    let same : of.1 ≡ j = (λ i. (cut.2 i).whole) ∙ p.2 in
    subst (λ (k : TracedJob). Contains t.jobs k) same (contained t.jobs of.0 of.1 of.2)
