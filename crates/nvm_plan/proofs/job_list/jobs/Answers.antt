use Rattle.std.proofs.Common.{◌≡◌, [], map, arith}
use Rattle.std.proofs.lemmas.List.{nil_from_length}
use Rattle.nvm_plan.proofs.WaitingHosts.{queue_of, queue_push}
use Rattle.nvm_plan.proofs.Midway.{midway_first, midway_next, midway_done, midway_last}
use Rattle.nvm_plan.proofs.job_list.jobs.Goals as goal

pub loop-next-init : goal.loop-next-init
loop-next-init c = rw (c.in_ok-waiting.ensures, c.in_ok-jobs.ensures.items) (midway_first (map (λ v. v.items) c.args.hosts.items))

pub loop-next-preserved-in-Continue-branch-4 : goal.loop-next-preserved-in-Continue-branch-4
loop-next-preserved-in-Continue-branch-4 c =
    let before = rw c.in-Some.ensures.items at c.loop-next.invariant in
    rw (c.in_ok-push_back.ensures.items, queue_push c.pop_front.new.self.items, c.in_ok-push.ensures.items)
    (midway_next (map (λ v. v.items) c.args.hosts.items) c.in-Some.next.host c.in-Some.next.commands.items c.next_body.new.commands.items
    (queue_of c.pop_front.new.self.items) c.loop-next.jobs.items c.in-Some-next_body.body before c.in-Some-next_body.ensures.some)

pub loop-next-preserved : goal.loop-next-preserved
loop-next-preserved c =
    let before = rw c.in-Some.ensures.items at c.loop-next.invariant in
    midway_done (map (λ v. v.items) c.args.hosts.items) c.in-Some.next.host c.in-Some.next.commands.items
    (queue_of c.pop_front.new.self.items) c.loop-next.jobs.items before c.in_default-next_body.ensures.none

pub returns : goal.returns
returns c =
    let none : c.loop-next.waiting.items ≡ [] = nil_from_length c.loop-next.waiting.items (omega (arith, c.in_default.ensures.cases.0, c.loop-next.waiting.ok.0)) in
    midway_last (map (λ v. v.items) c.args.hosts.items) c.loop-next.jobs.items (rw none at c.loop-next.invariant)
