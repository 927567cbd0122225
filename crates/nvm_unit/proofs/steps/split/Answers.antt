use Rattle.std.proofs.Common.{◌≡◌, ap, arith, subst, sym}
use Rattle.atomic_table.specs.Table.{Splits}
use Rattle.nvm_unit.specs.declared.views.Group.{Group}
use Rattle.nvm_unit.specs.Events.{idle}
use Rattle.nvm_unit.specs.Inside.Rule.{IsRuled}
use Rattle.nvm_unit.specs.Inside.Plays.{Sits, first_of, others_of}
use Rattle.nvm_unit.proofs.Joining.{split_allowed}
use Rattle.nvm_unit.proofs.steps.split.Goals as goal

pub split_seat-requires : goal.split_seat-requires
split_seat-requires g c =
    let desk = c.args.desk.now in
    let b = desk.table.shared.key in
    let mine = c.args.token.now.seat in
    let mine_is : mine.me.0 ≡ idle mine.me.0.passes = ap (λ (m : Sits). m.0) c.requires.rests in (
      c.requires.at,
      omega (arith, desk.sized),
      subst (λ (v : Group). Splits (IsRuled b) mine.id v (first_of mine.me.0) (others_of mine.me.0)) (sym mine_is)
          (split_allowed b mine.id mine.me.0.passes),
    )
