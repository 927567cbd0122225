use Rattle.std.proofs.Common.{◌≡◌, ◌++◌, ◌<◌, ℕ, List, length, take, get_or, ap, ◌∙◌, arith, map}
use Rattle.std.proofs.lemmas.List.{get_or_default, take_all}
use Rattle.std.specs.List.{flat_map}
use Rattle.nvm_plan.specs.declared.part.Part.{Part}
use Rattle.nvm_plan.specs.declared.part.PartResult.TheVariants.{Done}
use Rattle.nvm_audit.specs.RecordedJob.{RecordedJob}
use Rattle.nvm_trace.specs.declared.step.Step.{Step}
use Rattle.nvm_trace.specs.declared.step.Times.{Times}
use Rattle.nvm_trace.specs.Steps.{steps_of_part, times_of}
use Rattle.nvm_trace.proofs.Gathered.{flat_taken}
use Rattle.nvm_trace.proofs.stepping.put_job.Goals as goal

abbrev none : Part
none = record { unit = 0; point = 0; result = Done }

pub loop-i-preserved : goal.loop-i-preserved
loop-i-preserved c =
    let d = c.args.done.now in
    let traced = (map (λ o. o.whole.now) c.args.owners.now.items) in
    let i = c.loop-i.i in
    let all = c.as_slice-parts.result.now in
    let part : Part = get_or all i none in
    let parts_are : all ≡ d.parts = c.as_slice-parts.ensures ∙ ap (λ (e : RecordedJob). e.parts) c.done.view_is in
    let job_is : c.done.inside.job ≡ d.job = ap (λ (e : RecordedJob). e.job) c.done.view_is in
    let long = ap length parts_are in
    let low : i < length d.parts = omega (arith, long, c.loop-i-test.true) in
    let read : part ≡ get_or d.parts i part = ap (λ (ps : List Part). get_or ps i none) parts_are ∙ get_or_default d.parts i none part low in
    let times : c.times_of-times.result ≡ times_of traced d.job = c.times_of-times.ensures ∙ ap (λ (n : ℕ). times_of traced n) job_is in
    c.in_ok-put_part.ensures ∙ ap (λ (ss : List Step). ss ++ steps_of_part c.times_of-times.result c.done.inside.job part) c.loop-i.invariant
    ∙ ap
    (λ (t : Times). (c.args.steps.now.items ++ flat_map (steps_of_part (times_of traced d.job) d.job) (take i d.parts))
    ++ steps_of_part t c.done.inside.job part) times
    ∙ ap
    (λ (n : ℕ). (c.args.steps.now.items ++ flat_map (steps_of_part (times_of traced d.job) d.job) (take i d.parts))
    ++ steps_of_part (times_of traced d.job) n part) job_is
    ∙ flat_taken (steps_of_part (times_of traced d.job) d.job) c.args.steps.now.items d.parts i part low read

pub returns : goal.returns
returns c =
    let d = c.args.done.now in
    let parts_are : c.as_slice-parts.result.now ≡ d.parts = c.as_slice-parts.ensures ∙ ap (λ (e : RecordedJob). e.parts) c.done.view_is in
    let long = ap length parts_are in
    let all = take_all c.loop-i.i d.parts (omega (arith, long, c.loop-i-test.false)) in
    c.loop-i.invariant
    ∙ ap (λ ps. c.args.steps.now.items ++ flat_map (steps_of_part (times_of (map (λ o. o.whole.now) c.args.owners.now.items) d.job) d.job) ps) all
