use Rattle.std.proofs.Common.{◌≡◌, ap, arith, subst, sym, []}
use Rattle.atomic_table.specs.Table.{Joins}
use Rattle.nvm_unit.specs.declared.views.Group.{Group}
use Rattle.nvm_unit.specs.Events.{idle}
use Rattle.nvm_unit.specs.Inside.Rule.{IsRuled}
use Rattle.nvm_unit.specs.Inside.Plays.{Sits, together}
use Rattle.nvm_unit.proofs.Joining.{join_allowed}
use Rattle.nvm_unit.proofs.steps.join.Goals as goal

pub join_seat-requires : goal.join_seat-requires
join_seat-requires g c =
    let desk = c.args.desk.now in
    let b = desk.table.shared.key in
    let mine = c.args.token.now.seat in
    let other = c.args.other.seat in
    let mine_is : mine.me.0 ≡ idle mine.me.0.passes = ap (λ (m : Sits). m.0) c.requires.rests in
    let other_is : other.me.0 ≡ idle other.me.0.passes = ap (λ (m : Sits). m.0) c.requires.other_rests in
    let both = together mine.me.0 other.me.0 in (
      c.requires.at,
      c.requires.other,
      ap (λ (m : Sits). m.1) c.requires.other_rests,
      omega (arith, desk.sized),
      subst (λ (v : Group). Joins (IsRuled b) mine.id v other.id other.me.0 both (idle [])) (sym mine_is)
          (subst (λ (w : Group). Joins (IsRuled b) mine.id (idle mine.me.0.passes) other.id w both (idle [])) (sym other_is)
          (join_allowed b mine.id other.id mine.me.0.passes other.me.0.passes)),
    )
