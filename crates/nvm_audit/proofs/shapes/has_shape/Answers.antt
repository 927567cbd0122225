use Rattle.std.proofs.Common.{◌↔◌, List, IsTrue, subst}
use mathlib.Core.Bool.{beq}
use Rattle.nvm_plan.specs.declared.part.Part.{Part}
use Rattle.nvm_plan.specs.Shape.{HasEnding, HasOutcomeShape}
use Rattle.nvm_audit.specs.RecordedJob.{RecordedJob}
use Rattle.nvm_audit.proofs.Endings.{the_one, shape_by_data}
use Rattle.nvm_audit.proofs.shapes.has_shape.Goals as goal

pub returns-then-has_ending : goal.returns-then-has_ending
returns-then-has_ending c =
    let ns = c.args.geometry.now in
    let job = c.args.job.now in
    let done = c.done.inside in
    let found = the_one _ (c.ready_jobs.ensures.operation ns job c.in-Ready.ensures.table) in
    let ending = (c.has_ending.ensures found.0 found.1).0 c.if-has_ending.true in
    subst (λ (d : RecordedJob). IsTrue (beq c.is_some.result c.gives_data.result) ↔ HasOutcomeShape ns job d.parts d.statuses d.payload)
    c.done.view_is
    (shape_by_data ns job found.0 done.parts.items done.statuses done.payload
    (c.shapes_by_plan.ensures.ready ns job found.0 done.parts.items done.statuses done.payload c.in-Ready.ensures.table found.1)
    (subst (λ (parts : List Part). HasEnding ns found.0 parts done.statuses) c.as_slice.ensures ending)
    c.is_some.result c.gives_data.result c.is_some.ensures (c.gives_data.ensures ns found.0 found.1))
