use Rattle.std.proofs.Common.{◌≡◌, ℕ, ◌+◌, ◌<◌, ◌++◌, List, length, map, take, refl, ap, subst, ◌∙◌, arith, rules}
use Rattle.std.proofs.lemmas.List.{length-map}
use Rattle.nvm_audit.specs.Inside.Grouped.{AreGrouped}
use Rattle.nvm_audit.specs.RecordedJob.{RecordedJob}
use Rattle.nvm_audit.specs.RecordedPart.{RecordedPart, parts_of_work, parts_of_workers}
use Rattle.nvm_audit.proofs.Counting.{item_in_map}
use Rattle.nvm_audit.proofs.Groups.{one_worker_more}
use Rattle.nvm_audit.proofs.grouping.parts_by_unit.Goals as goal

pub put_work-requires : goal.put_work-requires
put_work-requires c = λ k d job i part at.
    let done = c.args.done.now.items in
    let worker = c.loop-worker.worker in
    let low : worker < length done = search rules in
    let there = item_in_map (λ work. work.items) done done worker c.index.result.now refl low c.index.ensures in
    let inside = c.requires.inside worker c.index.result.now.items there k d job i part at in
    let long = c.loop-worker.invariant.long in
    let same = length-map c.loop-worker.groups.items (λ group. group.items) in
    omega (arith, inside, long, same)

pub loop-worker-preserved : goal.loop-worker-preserved
loop-worker-preserved c =
    let done = c.args.done.now.items in
    let worker = c.loop-worker.worker in
    let low : worker < length done = search rules in
    let all : List (List RecordedJob) = map (λ work. work.items) done in
    let there = item_in_map (λ work. work.items) done done worker c.index.result.now refl low c.index.ensures in
    let number : worker ≡ 0 + worker = omega arith in
    subst (λ (ps : List RecordedPart). AreGrouped c.args.units ps (map (λ group. group.items) c.put_work.new.groups.items))
    (ap (λ (n : ℕ). parts_of_workers 0 (take worker all) ++ parts_of_work n c.index.result.now.items) number
    ∙ one_worker_more 0 all worker c.index.result.now.items there)
    (c.in_ok-put_work.ensures.grouped c.args.units (parts_of_workers 0 (take worker all)) c.loop-worker.invariant)
