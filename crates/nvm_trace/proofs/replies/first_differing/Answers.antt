use Rattle.std.proofs.Common.{◌≡◌, [], ◌<◌, List, length, map, take, get_or, sym, ap, subst, ◌∙◌, arith}
use Rattle.std.proofs.lemmas.List.{take_all, length-map, get_or-map}
use Rattle.nvm_audit.specs.RecordedJob.{RecordedJob}
use Rattle.nvm_trace.specs.Pieces.{piece}
use Rattle.nvm_trace.specs.Inside.Replies.{IsLeastWrong}
use Rattle.nvm_trace.proofs.Gathered.{flat_taken}
use Rattle.nvm_trace.proofs.Differing.{all_of, least_is_first}
use Rattle.nvm_trace.proofs.replies.first_differing.Goals as goal

pub loop-worker-init : goal.loop-worker-init
loop-worker-init c = λ d has. let low = has.1 in absurd (omega (arith, low))

pub loop-worker-preserved : goal.loop-worker-preserved
loop-worker-preserved c =
    let done = c.args.done.now.items in
    let all : List (List RecordedJob) = map (λ work. work.items) done in
    let worker = c.loop-worker.worker in
    let work = c.index.result.now in
    let low : worker < length done = omega (arith, c.loop-worker-test.true, c.len-worker-end.ensures) in
    let long = length-map done (λ work. work.items) in
    let read : work.items ≡ get_or all worker work.items =
    ap (λ w. w.items) c.index.ensures ∙ sym (get_or-map (λ work. work.items) done worker work work.items low) in
    subst (λ (s : List RecordedJob). IsLeastWrong c.args.geometry.now (map (λ o. piece o.whole.now o.cut) c.args.owners.now.items) s c.least_in_work-least.result)
    (flat_taken (λ work. work) [] all worker work.items (omega (arith, low, long)) read)
    (c.least_in_work-least.ensures (all_of (take worker all)) c.loop-worker.invariant)

pub returns : goal.returns
returns c =
    let done = c.args.done.now.items in
    let all : List (List RecordedJob) = map (λ work. work.items) done in
    let long = length-map done (λ work. work.items) in
    let end = take_all c.loop-worker.worker all (omega (arith, long, c.loop-worker-test.false, c.len-worker-end.ensures)) in
    least_is_first c.args.geometry.now (map (λ o. piece o.whole.now o.cut) c.args.owners.now.items) all c.loop-worker.least
    (subst (λ (ws : List (List RecordedJob)). IsLeastWrong c.args.geometry.now (map (λ o. piece o.whole.now o.cut) c.args.owners.now.items) (all_of ws) c.loop-worker.least) end
    c.loop-worker.invariant)
