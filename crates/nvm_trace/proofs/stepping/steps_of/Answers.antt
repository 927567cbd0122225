use Rattle.std.proofs.Common.{◌≡◌, ◌++◌, ◌<◌, ◌≤◌, [], List, length, map, get_or, sym, ap, ◌∙◌, arith, rules}
use Rattle.std.proofs.lemmas.List.{take_all, length-map, get_or-map}
use Rattle.nvm_audit.specs.RecordedJob.{RecordedJob}
use Rattle.nvm_trace.specs.declared.step.Step.{Step}
use Rattle.nvm_trace.specs.Steps.{steps_of_work, steps_of}
use Rattle.nvm_trace.proofs.Gathered.{flat_taken}
use Rattle.nvm_trace.proofs.stepping.steps_of.Goals as goal

pub loop-worker-preserved : goal.loop-worker-preserved
loop-worker-preserved c =
    let traced = (map (λ o. o.whole.now) c.args.owners.now.items) in
    let done = c.args.done.now.items in
    let all : List (List RecordedJob) = map (λ work. work.items) done in
    let worker = c.loop-worker.worker in
    let work = c.index.result.now in
    let low : worker < length done = search rules in
    let long = length-map done (λ work. work.items) in
    let read : work.items ≡ get_or all worker work.items =
    ap (λ w. w.items) c.index.ensures ∙ sym (get_or-map (λ work. work.items) done worker work work.items low) in
    c.in_ok-put_work.ensures ∙ ap (λ (ss : List Step). ss ++ steps_of_work traced work.items) c.loop-worker.invariant
    ∙ flat_taken (steps_of_work traced) [] all worker work.items (omega (arith, low, long)) read

pub returns : goal.returns
returns c =
    let done = c.args.done.now.items in
    let all : List (List RecordedJob) = map (λ work. work.items) done in
    let long = length-map done (λ work. work.items) in
    let low : length done ≤ c.loop-worker.worker = search rules in
    c.loop-worker.invariant ∙ ap (λ ws. steps_of (map (λ o. o.whole.now) c.args.owners.now.items) ws) (take_all c.loop-worker.worker all (omega (arith, low, long)))
