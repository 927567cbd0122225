use Rattle.std.proofs.Common.{◌∷◌, [], List, sym, subst, arith}
use Rattle.std.proofs.lemmas.List.{length-append}
use Rattle.std.proofs.lemmas.List.Elements.{All-push}
use Rattle.nvm_trace.specs.declared.traced_job.TracedJob.{TracedJob}
use Rattle.nvm_trace.specs.Shown.{shown_by}
use Rattle.nvm_trace.specs.Taking.{CanTake}
use Rattle.nvm_trace.specs.Traceable.{IsTraceable, IsTraceableJob}
use Rattle.nvm_trace.specs.TraceView.{TraceView}
use Rattle.nvm_trace.proofs.trace.Trace.push.Goals as goal

abbrev with_jobs : TraceView → List TracedJob → TraceView
with_jobs t jobs = record t { jobs = jobs }

pub invariant_of-self-2 : goal.invariant_of-self-2
invariant_of-self-2 c =
    let shown = shown_by c.self.inside in
    let job = c.args.job in
    let can = subst (λ (t : TraceView). CanTake t job) (sym c.self.view_is) c.requires in
    let long = length-append shown.jobs (job ∷ []) in
    let room = can.room in
    subst (λ (jobs : List TracedJob). IsTraceable (with_jobs shown jobs))
    (sym c.in_ok-push.ensures.items)
    (record {
      namespace = c.self.invariant.namespace;
      few = omega (arith, long, room);
      jobs = All-push (IsTraceableJob shown.namespace) shown.jobs job c.self.invariant.jobs can.job;
    })
