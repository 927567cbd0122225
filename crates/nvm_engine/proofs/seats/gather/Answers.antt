use Rattle.std.proofs.Common.{◌≡◌, ◌∙◌, Some}
use Rattle.std.proofs.lemmas.List.Elements.{All-pop}
use Rattle.nvm_engine.specs.Counters.{ClaimView}
use Rattle.nvm_engine.proofs.Dealt.{gathered_more, rests_as}
use Rattle.nvm_engine.proofs.seats.gather.Goals as goal

pub loop-claim-preserved : goal.loop-claim-preserved
loop-claim-preserved c =
    let inv = c.loop-claim.invariant in
    let old = c.loop-claim.left.items in
    let left = c.pop-in-loop-claim.new.self.items in
    let claim = c.in-Some-pop.claim in
    let items = c.in-Some-pop.ensures.items in
    let of = All-pop (λ (x : ClaimView). x.table ≡ c.args.desk.now.table.shared.table_id) old left (Some claim) items inv.of in
    let seat = c.into_token-seat.result.seat in
    record {
      at = c.join.ensures.at ∙ (c.into_token-seat.ensures.table ∙ of.1);
      rests = rests_as c.join.new.token.seat.me _ c.join.ensures.joined;
      all = gathered_more old left claim c.loop-claim.token.seat.me.0 _ c.join.new.token.seat.me seat.me items c.into_token-seat.ensures.me c.join.ensures.joined inv.all;
      of = of.0;
    }
