use Rattle.std.proofs.Common.{◌≡◌, ◌<◌, ◌+◌, ◌∙◌, ap, subst, sym, [], ◌∷◌, ◌++◌, List, length, length-append, arith, set}
use Rattle.nvm_unit.specs.Passes.{PassState}
use Rattle.nvm_space.specs.Inside.Dealing.{HaveOneMoreBelow}
use Rattle.nvm_space.specs.Ports.{PortState}
use Rattle.nvm_space.proofs.Lists.{at_index, at_some}
use Rattle.nvm_space.proofs.OneMore.{none_more, next_gives, all_more}
use Rattle.nvm_space.proofs.closing.gathered.Goals as goal

pub loop-place-init : goal.loop-place-init
loop-place-init g c = record {
  count = ap length c.in_ok-passes.ensures.items;
  below = none_more c.in_ok-passes.passes.items c.args.ports.now.items;
}

pub take_last-requires : goal.take_last-requires
take_last-requires g c =
    let same : length c.args.ports.now.items ≡ length c.loop-place.ports.items = c.loop-place.invariant.below.count in
    let lt : c.loop-place.place < length c.loop-place.ports.items = omega (arith, c.loop-place-test.true, c.loop-place.auto.place-end, c.len-place-end.ensures, c.args.ports.now.ok.0) in
    let at = at_index c.loop-place.ports.items c.loop-place.place c.index_mut.result.now lt c.index_mut.ensures.value in
    let was = at_some c.args.ports.now.items c.loop-place.place (omega arith) in
    let is : was.0 ≡ c.index_mut.result.now = c.loop-place.invariant.below.others c.loop-place.place c.index_mut.result.now was.0 (omega arith) at was.1 in
    subst (λ (p : PortState). p.passes ≡ [] → ⊥) is (c.requires c.loop-place.place was.0 was.1)

pub loop-place-preserved : goal.loop-place-preserved
loop-place-preserved g c =
    let same : length c.args.ports.now.items ≡ length c.loop-place.ports.items = c.loop-place.invariant.below.count in
    let lt : c.loop-place.place < length c.loop-place.ports.items = omega (arith, c.loop-place-test.true, c.loop-place.auto.place-end, c.len-place-end.ensures, c.args.ports.now.ok.0) in
    let at = at_index c.loop-place.ports.items c.loop-place.place c.index_mut.result.now lt c.index_mut.ensures.value in
    let pushed : c.push.new.self.items ≡ c.loop-place.passes.items ++ c.take_last.result ∷ [] = c.in_ok-push.ensures.items in
    let count : length c.loop-place.passes.items ≡ c.loop-place.place = c.loop-place.invariant.count in
    record {
      count = ap length pushed ∙ length-append c.loop-place.passes.items (c.take_last.result ∷ []) ∙ ap (λ (n : _). n + 1) count;
      below = subst (λ (ps : List PassState). HaveOneMoreBelow (c.loop-place.place + 1) ps (set c.loop-place.ports.items c.loop-place.place c.take_last.new.self) c.args.ports.now.items) (sym pushed)
          (next_gives c.loop-place.place c.loop-place.passes.items c.loop-place.ports.items c.args.ports.now.items c.take_last.result c.index_mut.result.now c.take_last.new.self
          c.loop-place.invariant.below count at c.take_last.ensures);
    }

pub returns : goal.returns
returns g c =
    let same : length c.args.ports.now.items ≡ length c.loop-place.ports.items = c.loop-place.invariant.below.count in
    let end : c.loop-place.place ≡ length c.args.ports.now.items = omega (arith, c.loop-place-test.false, c.loop-place.auto.place-end, c.len-place-end.ensures, c.args.ports.now.ok.0) in
    all_more c.loop-place.place c.loop-place.passes.items c.loop-place.ports.items c.args.ports.now.items c.loop-place.invariant.below
    (c.loop-place.invariant.count ∙ end ∙ same) (omega arith)
