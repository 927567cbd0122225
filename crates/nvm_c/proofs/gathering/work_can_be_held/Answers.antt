use Rattle.std.proofs.Common.{◌<◌, ◌≤◌, length, refl, rules}
use Rattle.nvm_audit.specs.Recordable.{most_jobs}
use Rattle.nvm_c.specs.Inside.Gathering.{CanHold}
use Rattle.nvm_c.proofs.Places.{all_below, at_index, none_below, one_below}
use Rattle.nvm_c.proofs.gathering.work_can_be_held.Goals as goal

pub loop-i-init : goal.loop-i-init
loop-i-init c = none_below (CanHold c.args.geometry c.args.jobs.now.items) c.args.work.now.items

pub loop-i-preserved : goal.loop-i-preserved
loop-i-preserved c =
    let below : c.loop-i.i < length c.args.work.now.items = search rules in
    one_below (CanHold c.args.geometry c.args.jobs.now.items) c.args.work.now.items c.loop-i.i c.index.result.now c.loop-i.invariant
    (at_index c.args.work.now.items c.loop-i.i c.index.result.now below c.index.ensures) (c.if-not-done_can_be_held.ensures refl)

pub returns : goal.returns
returns c = λ _.
    let all : length c.args.work.now.items ≤ c.loop-i.i = search rules in
    let few : length c.args.work.now.items ≤ most_jobs = search rules in
    record { few = few; each = all_below (CanHold c.args.geometry c.args.jobs.now.items) c.args.work.now.items c.loop-i.i c.loop-i.invariant all }
