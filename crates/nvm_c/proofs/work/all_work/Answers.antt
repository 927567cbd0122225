use Rattle.std.proofs.Common.{◌≡◌, ◌∙◌, ◌<◌, ◌+◌, ◌++◌, ◌∷◌, [], Global, Vec, List, length, map, ap, sym, subst, rules, arith}
use Rattle.std.proofs.lemmas.List.{length-map, map_push}
use Rattle.nvm_plan.specs.declared.job.Job.{Job}
use Rattle.nvm_audit.specs.RecordedJob.{RecordedJob}
use Rattle.nvm_c.specs.Opening.{engines_of}
use Rattle.nvm_c.proofs.Worked.{SoFar, all_worked, one_more, refused_there, same_after, worked_there}
use Rattle.nvm_c.proofs.work.all_work.Goals as goal

pub returns-in_default-clause-same : goal.returns-in_default-clause-same
returns-in_default-clause-same c =
    let lt : c.loop-place.place < length c.loop-place.ports = search rules in
    same_after c.loop-place.ports c.args.ports.now c.loop-place.place c.index-ports-place.result c.index-ports-place.is lt c.loop-place.invariant.same c.port_work.new.port c.port_work.ensures.same

pub returns-in-Err-clause-same : goal.returns-in-Err-clause-same
returns-in-Err-clause-same c =
    let lt : c.loop-place.place < length c.loop-place.ports = search rules in
    same_after c.loop-place.ports c.args.ports.now c.loop-place.place c.index-ports-place.result c.index-ports-place.is lt c.loop-place.invariant.same c.port_work.new.port c.port_work.ensures.same

pub returns-in-Err-clause-refused : goal.returns-in-Err-clause-refused
returns-in-Err-clause-refused c =
    let lt : c.loop-place.place < length c.loop-place.ports = search rules in
    refused_there c.loop-place.ports c.args.ports.now c.loop-place.place c.index-ports-place.result c.index-ports-place.is lt c.loop-place.invariant.same c.in-Err.code c.in-Err.ensures.refused

pub loop-place-preserved : goal.loop-place-preserved
loop-place-preserved c =
    let inv = c.loop-place.invariant in
    let place = c.loop-place.place in
    let held = engines_of c.args.ports.now in
    let lt : c.loop-place.place < length c.loop-place.ports = search rules in
    let ns = c.args.head.now.geometry in let most = c.args.head.now.limit in
    let jobs = map (λ (own : Vec Job Global). own.items) c.loop-place.work.jobs.items in
    let done = map (λ (did : Vec RecordedJob Global). did.items) c.loop-place.work.done.items in
    let own = c.in-Ok.own.items in let did = c.in-Ok.did.items in
    let jobs_are : map (λ (o : Vec Job Global). o.items) c.add.new.self.jobs.items ≡ jobs ++ own ∷ [] =
    ap (map (λ (o : Vec Job Global). o.items)) c.in-Ok-add.ensures.jobs ∙ map_push (λ (o : Vec Job Global). o.items) c.loop-place.work.jobs.items c.in-Ok.own in
    let done_are : map (λ (d : Vec RecordedJob Global). d.items) c.add.new.self.done.items ≡ done ++ did ∷ [] =
    ap (map (λ (d : Vec RecordedJob Global). d.items)) c.in-Ok-add.ensures.done ∙ map_push (λ (d : Vec RecordedJob Global). d.items) c.loop-place.work.done.items c.in-Ok.did in
    record {
      same = same_after c.loop-place.ports c.args.ports.now c.loop-place.place c.index-ports-place.result c.index-ports-place.is lt c.loop-place.invariant.same c.port_work.new.port c.port_work.ensures.same;
      geometry = c.add.ensures.geometry ∙ inv.geometry;
      limit = c.add.ensures.limit ∙ inv.limit;
      far = subst (λ (js : List (List Job)). SoFar ns most held js (map (λ (d : Vec RecordedJob Global). d.items) c.add.new.self.done.items) (place + 1)) (sym jobs_are)
          (subst (λ (ds : List (List RecordedJob)). SoFar ns most held (jobs ++ own ∷ []) ds (place + 1)) (sym done_are)
          (one_more ns most held jobs done place own did inv.far
          (worked_there c.loop-place.ports c.args.ports.now c.loop-place.place c.index-ports-place.result c.index-ports-place.is lt c.loop-place.invariant.same ns most own did c.in-Ok.ensures.work)));
    }

pub returns-clause-work : goal.returns-clause-work
returns-clause-work c =
    let inv = c.loop-place.invariant in
    let all : length (engines_of c.args.ports.now) ≡ length c.args.ports.now = length-map c.args.ports.now _ in
    let end : c.loop-place.place ≡ length (engines_of c.args.ports.now) = omega (arith, all, c.loop-place-test.false, c.loop-place.auto.place-end) in
    rw (inv.geometry, inv.limit) (all_worked c.args.head.now.geometry c.args.head.now.limit (engines_of c.args.ports.now) _ _ c.loop-place.place inv.far end)
