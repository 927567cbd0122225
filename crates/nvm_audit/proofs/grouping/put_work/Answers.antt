use Rattle.std.proofs.Common.{◌≡◌, ◌<◌, ◌++◌, List, length, map, take, refl, sym, ap, subst, ◌∙◌, append_assoc, append-nil, arith, rules}
use Rattle.std.proofs.lemmas.List.{take_all}
use Rattle.nvm_audit.specs.Inside.Grouped.{AreGrouped}
use Rattle.nvm_audit.specs.RecordedJob.{RecordedJob}
use Rattle.nvm_audit.specs.RecordedPart.{RecordedPart, parts_left, parts_of_work}
use Rattle.nvm_audit.proofs.Groups.{one_job_more}
use Rattle.nvm_audit.proofs.Places.{stands_read}
use Rattle.nvm_audit.proofs.grouping.put_work.Goals as goal

pub put_job-requires : goal.put_job-requires
put_job-requires c = λ i part at.
    let low : c.loop-k.k < length c.args.work.now.items = search rules in
    let there = stands_read c.args.work.now.items c.loop-k.k c.index.result.now low c.index.ensures in
    let inside = c.requires c.loop-k.k c.index.result.now there i part at in
    omega (arith, inside, c.loop-k.invariant.long)

pub loop-k-init : goal.loop-k-init
loop-k-init c = record {
  long = refl;
  grouped = λ units parts old. subst (λ (ps : List RecordedPart). AreGrouped units ps (map (λ group. group.items) c.args.groups.now.items)) (sym (append-nil parts)) old;
}

pub loop-k-preserved : goal.loop-k-preserved
loop-k-preserved c =
    let work = c.args.work.now.items in
    let k = c.loop-k.k in
    let worker = c.args.worker in
    let low : k < length work = search rules in
    let there = stands_read work k c.index.result.now low c.index.ensures in
    record {
      long = c.in_ok-put_job.ensures.long ∙ c.loop-k.invariant.long;
      grouped =
          λ units parts old.
          subst (λ (ps : List RecordedPart). AreGrouped units ps (map (λ group. group.items) c.put_job.new.groups.items))
          (append_assoc parts (parts_of_work worker (take k work)) (parts_left worker c.index.result.now c.index.result.now.parts) ∙ ap (λ (ps : List RecordedPart). parts ++ ps) (one_job_more worker work k c.index.result.now there))
          (c.in_ok-put_job.ensures.grouped units (parts ++ parts_of_work worker (take k work)) (c.loop-k.invariant.grouped units parts old));
    }

pub returns-clause-grouped : goal.returns-clause-grouped
returns-clause-grouped c = λ units parts old.
    let work = c.args.work.now.items in
    let all_of_it : take c.loop-k.k work ≡ work = take_all c.loop-k.k work (search rules) in
    subst (λ (js : List RecordedJob). AreGrouped units (parts ++ parts_of_work c.args.worker js) (map (λ group. group.items) c.loop-k.groups.items)) all_of_it
    (c.loop-k.invariant.grouped units parts old)
