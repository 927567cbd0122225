use Rattle.std.proofs.Common.{◌≡◌, ◌∙◌, ap, List, ◌∷◌, [], ◌++◌, replicate}
use Rattle.std.proofs.lemmas.List.{replicate_more}
use Rattle.nvm_engine.specs.Counters.{ClaimView, new_claim}
use Rattle.nvm_engine.specs.Inside.Seats.{only}
use Rattle.nvm_engine.proofs.Dealt.{first_is_new, others_are_left, is_new}
use Rattle.nvm_engine.proofs.seats.deal.Goals as goal

pub loop-number-preserved : goal.loop-number-preserved
loop-number-preserved c =
    let id = c.args.desk.now.table.shared.table_id in
    let inv = c.loop-number.invariant in
    let number = c.loop-number.number in
    let seat = c.split-others.new.token.seat in
    let first = first_is_new c.loop-number.token.seat.me seat.me c.args.workers number c.loop-number-test.true inv.rests c.split-others.ensures.first in
    let claim : ClaimView = record { table = seat.table_id; drawn = only seat.me.0 } in
    let new : claim ≡ new_claim id = is_new seat.table_id id (only seat.me.0) (c.split-others.ensures.at ∙ inv.at) first in
    record {
      at = c.split-others.ensures.other ∙ inv.at;
      rests = others_are_left c.loop-number.token.seat.me c.split-others.result.seat.me c.args.workers number inv.rests c.split-others.ensures.others;
      dealt = c.in_ok-push.ensures.items
          ∙ (ap (λ (xs : List ClaimView). xs ++ claim ∷ []) inv.dealt
          ∙ (ap (λ (x : ClaimView). replicate number (new_claim id) ++ x ∷ []) new ∙ replicate_more number (new_claim id)));
    }
