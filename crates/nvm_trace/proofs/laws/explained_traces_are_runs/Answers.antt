use Rattle.std.proofs.Common.{ℕ, ◌<◌, List, All}
use Rattle.nvm_geometry.specs.Boundaries.{units_of}
use Rattle.nvm_audit.specs.LawfulRecord.{IsLawfulRecord}
use Rattle.nvm_audit.specs.RecordView.{RecordView}
use Rattle.nvm_trace.specs.declared.traced_job.TracedJob.{TracedJob}
use Rattle.nvm_trace.specs.Linearization.{TakenStep, IsAtMoment, IsLinearization}
use Rattle.nvm_trace.specs.Moments.{HaveMoments}
use Rattle.nvm_trace.specs.Pieces.{wholes}
use Rattle.nvm_trace.specs.Steps.{steps_of}
use Rattle.nvm_trace.proofs.RightSteps.{Laws}
use Rattle.nvm_trace.proofs.Runs.{runs, unit_there}
use Rattle.nvm_trace.proofs.laws.explained_traces_are_runs.Goals as goal

linearized : Laws → (jobs : List TracedJob) (r : RecordView) → IsLawfulRecord r → (moments : HaveMoments (steps_of jobs r.done)) (unit : ℕ)
    → unit < units_of r.namespace
    → (steps : List TakenStep) × IsLinearization jobs r unit steps × All (IsAtMoment jobs moments.moment) steps
linearized laws jobs r lawful moments unit low =
    let history = unit_there r lawful unit low in runs laws jobs r lawful moments unit history.0 history.1

pub returns-clause-linearizable : goal.returns-clause-linearizable
returns-clause-linearizable c judging t r unit held explained low =
    let laws : Laws = record {
      looks = c.looks_change_nothing.ensures;
      next = c.next_point.ensures;
      look = c.parts_keep_their_kind.ensures.look;
      pair = c.parts_keep_their_kind.ensures.pair;
      one_unit = c.ready_jobs.ensures.pair;
      shapes = c.shapes_by_plan.ensures.ready;
    } in
    let run = linearized laws (wholes judging t) r explained.lawful (c.explained_traces_have_moments.ensures.moments judging t r held explained) unit low in
    (run.0, run.1)

pub returns-clause-moments : goal.returns-clause-moments
returns-clause-moments c judging t r unit moments explained low =
    linearized
    (record {
      looks = c.looks_change_nothing.ensures;
      next = c.next_point.ensures;
      look = c.parts_keep_their_kind.ensures.look;
      pair = c.parts_keep_their_kind.ensures.pair;
      one_unit = c.ready_jobs.ensures.pair;
      shapes = c.shapes_by_plan.ensures.ready;
    })
    (wholes judging t) r explained.lawful moments unit low
