use Rattle.std.proofs.Common.{◌≡◌, ◌^◌, ◌<◌, All, ap, refl, subst, sym}
use Rattle.std.specs.Io.KnownBytes.{Appends}
use Rattle.nvm_text.specs.Handed.{TakesFront}
use Rattle.nvm_text.proofs.Taking.{behind, both, on_err_then, on_ok_then, within}
use Rattle.nvm_trace.specs.declared.trace.Trace.TheInside.{Inside}
use Rattle.nvm_trace.specs.Shown.{shown_by}
use Rattle.nvm_trace.specs.Traceable.{IsTraceable}
use Rattle.nvm_trace.specs.TraceView.{TraceView}
use Rattle.nvm_file.specs.Counted.{counted}
use Rattle.nvm_file.specs.Fits.{NumbersFit}
use Rattle.nvm_file.specs.TraceFits.{TraceFits, TracedJobFits}
use Rattle.nvm_file.specs.TraceSpelling.{trace_bytes, trace_head_bytes, traced_bytes}
use Rattle.nvm_file.proofs.writing.traces.write_pieces.Goals as goal

-- The numbers of a trace fit where those of its parts do.
fit_of : (inside : Inside) (t : TraceView) → shown_by inside ≡ t → NumbersFit t.namespace → t.first < 2 ^ 64
    → All TracedJobFits inside.jobs.items → TraceFits t
fit_of inside t view namespace first jobs =
    record { namespace = namespace; first = first; jobs = subst (λ (v : TraceView). All TracedJobFits v.jobs) view jobs }

pub returns-in_err-write_trace_head-clause-front : goal.returns-in_err-write_trace_head-clause-front
returns-in_err-write_trace_head-clause-front g c =
    let t = c.args.trace.now in
    within c.from_residual.result _ _ _ (trace_head_bytes t) (counted traced_bytes t.jobs) refl c.in_err-write_trace_head.ensures.front

pub returns-clause-whole : goal.returns-clause-whole
returns-clause-whole g c =
    let t = shown_by c.trace.inside in
    on_ok_then c.write_traced_jobs.result (λ taken. subst (Appends _ _) (ap trace_bytes c.trace.view_is)
    (both _ _ _ _ (trace_head_bytes t) (counted traced_bytes t.jobs) (ap trace_head_bytes (sym c.trace.view_is))
    c.in_ok-write_trace_head.ensures.whole
    (subst (Appends _ _) (ap (counted traced_bytes) c.deref.ensures.value) taken))) c.write_traced_jobs.ensures.whole

pub returns-clause-front : goal.returns-clause-front
returns-clause-front g c =
    let t = shown_by c.trace.inside in
    on_err_then c.write_traced_jobs.result (λ failed. subst (TakesFront _ _) (ap trace_bytes c.trace.view_is)
    (behind _ _ _ _ (trace_head_bytes t) (counted traced_bytes t.jobs) (ap trace_head_bytes (sym c.trace.view_is))
    c.in_ok-write_trace_head.ensures.whole
    (subst (TakesFront _ _) (ap (counted traced_bytes) c.deref.ensures.value) failed))) c.write_traced_jobs.ensures.front

pub returns-clause-fits : goal.returns-clause-fits
returns-clause-fits g c =
    on_ok_then c.write_traced_jobs.result
    (fit_of c.trace.inside c.args.trace.now c.trace.view_is c.in_ok-write_trace_head.ensures.fit c.in_ok-write_trace_head.ensures.window)
    (on_ok_then c.write_traced_jobs.result (subst (All TracedJobFits) c.deref.ensures.value) c.write_traced_jobs.ensures.fit)

pub returns-clause-file : goal.returns-clause-file
returns-clause-file g c =
    on_ok_then c.write_traced_jobs.result
    (λ fits. c.spellings_are_traces.ensures.read c.args.trace.now (subst IsTraceable c.trace.view_is c.trace.invariant) fits)
    (returns-clause-fits g c)
