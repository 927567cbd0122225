use Rattle.std.proofs.Common.{◌++◌, ◌<◌, List, length, ap, ◌∙◌, rules, map}
use Rattle.std.proofs.lemmas.List.{take_all}
use Rattle.nvm_trace.specs.declared.step.Step.{Step}
use Rattle.nvm_trace.specs.Steps.{steps_of_job, steps_of_work}
use Rattle.nvm_trace.proofs.Gathered.{flat_taken}
use Rattle.nvm_trace.proofs.stepping.put_work.Goals as goal

pub loop-k-preserved : goal.loop-k-preserved
loop-k-preserved c =
    let traced = (map (λ o. o.whole.now) c.args.owners.now.items) in
    let work = c.args.work.now.items in
    let k = c.loop-k.k in
    let d = c.index.result.now in
    let low : k < length work = search rules in
    c.in_ok-put_job.ensures ∙ ap (λ (ss : List Step). ss ++ steps_of_job traced d) c.loop-k.invariant
    ∙ flat_taken (steps_of_job traced) c.args.steps.now.items work k d low c.index.ensures

pub returns : goal.returns
returns c =
    let work = c.args.work.now.items in
    let all = take_all c.loop-k.k work (search rules) in
    c.loop-k.invariant ∙ ap (λ ds. c.args.steps.now.items ++ steps_of_work (map (λ o. o.whole.now) c.args.owners.now.items) ds) all
