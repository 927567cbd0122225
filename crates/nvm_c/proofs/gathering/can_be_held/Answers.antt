use Rattle.std.proofs.Common.{◌<◌, ◌≤◌, length, map, refl, rules, arith}
use Rattle.std.proofs.lemmas.List.{length-map}
use Rattle.nvm_c.specs.Inside.Gathering.{CanHoldWork}
use Rattle.nvm_c.proofs.Places.{all_below, at_index, at_map, none_below, one_below}
use Rattle.nvm_c.proofs.gathering.can_be_held.Goals as goal

pub loop-i-init : goal.loop-i-init
loop-i-init c = none_below (CanHoldWork c.args.geometry c.args.jobs.now.items) (map (λ did. did.items) c.args.done.now.items)

pub loop-i-preserved : goal.loop-i-preserved
loop-i-preserved c =
    let below : c.loop-i.i < length c.args.done.now.items = search rules in
    one_below (CanHoldWork c.args.geometry c.args.jobs.now.items) (map (λ did. did.items) c.args.done.now.items) c.loop-i.i c.index.result.now.items c.loop-i.invariant
    (at_map (λ did. did.items) c.args.done.now.items c.loop-i.i c.index.result.now (at_index c.args.done.now.items c.loop-i.i c.index.result.now below c.index.ensures))
    (c.if-not-work_can_be_held.ensures refl)

pub returns : goal.returns
returns c = λ _.
    let all : length c.args.done.now.items ≤ c.loop-i.i = search rules in
    let same = length-map c.args.done.now.items (λ did. did.items) in
    let whole : length (map (λ did. did.items) c.args.done.now.items) ≤ c.loop-i.i = omega (arith, all, same) in
    all_below (CanHoldWork c.args.geometry c.args.jobs.now.items) (map (λ did. did.items) c.args.done.now.items) c.loop-i.i c.loop-i.invariant whole
