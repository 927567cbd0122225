use Rattle.std.proofs.Common.{◌≡◌, ◌<◌, ◌∙◌, ap, sym, length, arith, drop}
use Rattle.std.proofs.Math.ListN.{length-drop}
use Rattle.nvm_space.proofs.Lists.{at_below, at_index, drop_here, drop_next}
use Rattle.nvm_space.proofs.OneMore.{none_more, next_gets, all_more}
use Rattle.nvm_space.proofs.opening.hand_out.Goals as goal

pub loop-pass-init : goal.loop-pass-init
loop-pass-init g c = record {
  left = sym c.into_iter-pass-iterator.ensures.into_iter_gives.0;
  below = none_more c.args.passes.items c.args.ports.now.items;
}

pub index_mut-requires : goal.index_mut-requires
index_mut-requires g c =
    let here = drop_here c.args.passes.items c.loop-pass.place c.in-Some.pass c.next.new.self.rest.items (c.loop-pass.invariant.left ∙ c.in-Some.ensures.steps.0) in
    let below : c.loop-pass.place < length c.args.passes.items = at_below c.args.passes.items c.loop-pass.place c.in-Some.pass here in
    let counts : length c.args.passes.items ≡ length c.args.ports.now.items = c.requires in
    let same : length c.loop-pass.ports.items ≡ length c.args.ports.now.items = c.loop-pass.invariant.below.count in
    omega (arith, c.loop-pass.ports.ok.0)

pub loop-pass-preserved : goal.loop-pass-preserved
loop-pass-preserved g c =
    let left = c.loop-pass.invariant.left ∙ c.in-Some.ensures.steps.0 in
    let here = drop_here c.args.passes.items c.loop-pass.place c.in-Some.pass c.next.new.self.rest.items left in
    let below : c.loop-pass.place < length c.args.passes.items = at_below c.args.passes.items c.loop-pass.place c.in-Some.pass here in
    let counts : length c.args.passes.items ≡ length c.args.ports.now.items = c.requires in
    let same : length c.loop-pass.ports.items ≡ length c.args.ports.now.items = c.loop-pass.invariant.below.count in
    let at = at_index c.loop-pass.ports.items c.loop-pass.place c.index_mut.result.now (omega arith) c.index_mut.ensures.value in
    record {
      left = drop_next c.args.passes.items c.loop-pass.place c.in-Some.pass c.next.new.self.rest.items left;
      below = next_gets c.loop-pass.place c.args.passes.items c.args.ports.now.items c.loop-pass.ports.items c.in-Some.pass _ _ c.loop-pass.invariant.below here at c.in_ok-add.ensures;
    }

pub returns : goal.returns
returns g c =
    let same : length (drop c.loop-pass.place c.args.passes.items) ≡ length c.loop-pass.pass-iterator.rest.items = ap length c.loop-pass.invariant.left in
    let none : c.loop-pass.pass-iterator.rest.len ≡ 0 = c.in-None.ensures.steps.0 in
    let counts : length c.args.passes.items ≡ length c.args.ports.now.items = c.requires in
    all_more c.loop-pass.place c.args.passes.items c.args.ports.now.items c.loop-pass.ports.items c.loop-pass.invariant.below c.requires
    (omega (arith, c.loop-pass.pass-iterator.rest.ok.0, length-drop c.loop-pass.place c.args.passes.items))
