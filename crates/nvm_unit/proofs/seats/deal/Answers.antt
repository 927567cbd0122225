use Rattle.std.proofs.Common.{◌≡◌, ap, refl, ◌∙◌, [], ◌∷◌, ◌++◌, map, is_some}
use Rattle.nvm_unit.specs.Inside.Parts.{seated}
use Rattle.nvm_unit.specs.Ends.{pass_at}
use Rattle.nvm_unit.specs.Passes.{PassState}
use Rattle.nvm_unit.specs.Inside.Plays.{resting}
use Rattle.nvm_unit.specs.Views.{newcomer}
use Rattle.nvm_unit.proofs.OnePass.{whole}
use Rattle.nvm_unit.proofs.Dealing.{next_left, newcomer_proper, dealt_more, same_pass, opening_snapshot}
use Rattle.nvm_unit.proofs.Together.{first_stays, others_go}
use Rattle.nvm_unit.proofs.seats.deal.Goals as goal

pub invariant_of-push : goal.invariant_of-push
invariant_of-push g c =
    let b = c.args.desk.now.table.shared.key in
    let number = c.loop-number.number in
    let left = c.loop-number.invariant.rests ∙ ap resting (next_left b number c.args.count c.loop-number-test.true) in
    whole _ (newcomer b number) (first_stays _ _ _ _ left c.split-others.ensures.first) refl
    (opening_snapshot b c.in_ok-opening.field-0 c.args.blocks.now c.in_ok-opening.ensures.entries c.in_ok-opening.ensures.version c.requires.version)
    (newcomer_proper b number)

pub loop-number-preserved : goal.loop-number-preserved
loop-number-preserved g c =
    let b = c.args.desk.now.table.shared.key in
    let id = c.args.desk.now.table.shared.table_id in
    let number = c.loop-number.number in
    let next = next_left b number c.args.count c.loop-number-test.true in
    let left = c.loop-number.invariant.rests ∙ ap resting next in
    let here = c.split-others.ensures.at ∙ c.loop-number.invariant.at in
    let view = ap seated (first_stays _ _ _ _ left c.split-others.ensures.first) in
    let pass : PassState = record { table = c.split-others.new.token.seat.table_id; view = seated c.split-others.new.token.seat.me; keeps = is_some c.in_ok-opening.field-0.version } in
    let pass_is : pass ≡ pass_at id c.args.versions (newcomer b number) = same_pass _ id _ (newcomer b number) _ c.args.versions here view c.in_ok-opening.ensures.kept in
    let pushed = c.in_ok-push.ensures.items ∙ ap (λ (x : PassState). c.loop-number.passes.items ++ x ∷ []) pass_is in
    record {
      at = c.split-others.ensures.other ∙ c.loop-number.invariant.at;
      rests = others_go _ _ _ _ left c.split-others.ensures.others;
      dealt = dealt_more _ _ (pass_at id c.args.versions (newcomer b number)) _ _ _ pushed (ap (map (pass_at id c.args.versions)) next) c.loop-number.invariant.dealt;
    }
