use Rattle.std.proofs.Common.{◌∙◌, ap, length, List, ◌++◌}
use Rattle.nvm_unit.specs.declared.views.PassView.{PassView}
use Rattle.nvm_unit.specs.Ends.{views_of}
use Rattle.nvm_unit.specs.Inside.Plays.{resting}
use Rattle.nvm_unit.proofs.Dealing.{gathered_more, first_gathered, left_before, last_before}
use Rattle.nvm_unit.proofs.Together.{rests_as, passes_are}
use Rattle.nvm_unit.proofs.seats.gather.Goals as goal

pub loop-pass-init : goal.loop-pass-init
loop-pass-init g c =
    let items = c.in-Some.ensures.items in
    let left = c.pop.new.self.items in
    record {
      at = c.into_token-token.ensures.table ∙ c.requires.of (length left) c.in-Some.last (last_before _ left c.in-Some.last items);
      rests = rests_as _ _ c.into_token-token.ensures.me;
      all = ap (λ (vs : List PassView). views_of left ++ vs) (passes_are _ _ c.into_token-token.ensures.me) ∙ first_gathered _ left c.in-Some.last items;
      each = λ i pass at. c.requires.of i pass (left_before _ left c.in-Some.last pass i items at);
    }

pub join-requires-clause-at : goal.join-requires-clause-at
join-requires-clause-at g c =
    let left = c.pop-in-loop-pass.new.self.items in
    c.into_token-seat.ensures.table
    ∙ c.loop-pass.invariant.each (length left) c.in-Some-pop.pass (last_before _ left c.in-Some-pop.pass c.in-Some-pop.ensures.items)

pub loop-pass-preserved : goal.loop-pass-preserved
loop-pass-preserved g c =
    let left = c.pop-in-loop-pass.new.self.items in
    let pass = c.in-Some-pop.pass in
    let items = c.in-Some-pop.ensures.items in
    let inv = c.loop-pass.invariant in
    let views = c.loop-pass.token.seat.me.0.passes in
    let joined = c.join.ensures.joined ∙ ap (λ (vs : List PassView). resting (vs ++ views)) (passes_are _ _ c.into_token-seat.ensures.me) in
    record {
      at = c.join.ensures.at ∙ (c.into_token-seat.ensures.table ∙ inv.each (length left) pass (last_before _ left pass items));
      rests = rests_as _ _ joined;
      all = gathered_more _ left pass views _ _ items (passes_are _ _ joined) inv.all;
      each = λ i p at. inv.each i p (left_before _ left pass p i items at);
    }
