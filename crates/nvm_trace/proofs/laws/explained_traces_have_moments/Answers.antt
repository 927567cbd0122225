use Rattle.std.proofs.Common.{◌≤◌, Option, Some, None}
use Rattle.std.specs.Prelude.{IfSome}
use Rattle.std.proofs.lemmas.List.Elements.{All-contains}
use Rattle.nvm_geometry.specs.Namespace.{Namespace}
use Rattle.nvm_trace.specs.declared.traced_job.Ending.{Ending}
use Rattle.nvm_trace.specs.declared.traced_job.TracedJob.{TracedJob}
use Rattle.nvm_trace.specs.Pieces.{wholes}
use Rattle.nvm_trace.specs.Steps.{steps_of}
use Rattle.nvm_trace.specs.Traceable.{IsEndingOf, IsTraceableJob}
use Rattle.nvm_trace.proofs.Wholes.{whole_traced}
use Rattle.nvm_trace.proofs.Moments.{have_moments, moments_are_timely}
use Rattle.nvm_trace.proofs.ShownSteps.{steps_end}
use Rattle.nvm_trace.proofs.laws.explained_traces_have_moments.Goals as goal

ends_after : (ns : Namespace) (j : TracedJob) (o : Option Ending) → IfSome o (IsEndingOf ns j) → IfSome o (λ e. j.began ≤ e.time)
ends_after ns j None of = of
ends_after ns j (Some e) of = of.time

pub returns-clause-moments : goal.returns-clause-moments
returns-clause-moments c = λ judging t r held explained.
    have_moments (steps_of (wholes judging t) r.done)
    (steps_end (wholes judging t)
    (λ j has.
    let its = All-contains (IsTraceableJob t.namespace) t.jobs j held.jobs (whole_traced judging t j has) in
    ends_after t.namespace j j.ended its.ended) r.done) explained.timely

pub returns-clause-timely : goal.returns-clause-timely
returns-clause-timely c = moments_are_timely
