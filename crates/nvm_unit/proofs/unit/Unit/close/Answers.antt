use Rattle.std.proofs.Common.{◌≡◌, ◌<◌, ap, sym, subst, ◌∙◌, length, List, arith}
use Rattle.nvm_unit.specs.declared.bounds.Bounds.{Bounds}
use Rattle.nvm_unit.specs.declared.steps.Desk.{Desk}
use Rattle.nvm_unit.specs.declared.views.PassView.{PassView}
use Rattle.nvm_unit.specs.Ends.{views_of}
use Rattle.nvm_unit.specs.Inside.Seats.{AreAllViews}
use Rattle.nvm_unit.specs.Passes.{UnitName}
use Rattle.nvm_unit.proofs.Dealing.{all_views}
use Rattle.nvm_unit.proofs.Together.{passes_are}
use Rattle.nvm_unit.proofs.unit.Unit.close.Goals as goal

abbrev bounds_of : UnitName → Bounds
bounds_of x = x.bounds

pub gather-token-requires-clause-some : goal.gather-token-requires-clause-some
gather-token-requires-clause-some g c =
    let count : length c.args.passes.items ≡ c.args.self.bounds.passes = c.requires.count in
    let same : c.self.inside.bounds.passes ≡ c.args.self.bounds.passes = ap (λ (x : UnitName). x.bounds.passes) c.self.view_is in
    let filled : 0 < c.self.inside.bounds.passes = c.self.invariant.2 in
    omega arith

pub close-requires-clause-all : goal.close-requires-clause-all
close-requires-clause-all g c =
    let key = ap (λ (d : Desk _). d.table.shared.key) c.into_desk-desk.ensures ∙ (c.self.invariant.0 ∙ ap bounds_of c.self.view_is) in
    let views = passes_are _ _ c.gather-token.ensures.all in
    subst (λ (vs : List PassView). AreAllViews c.into_desk-desk.result.table.shared.key.passes vs) (sym views)
    (subst (λ (b : Bounds). AreAllViews b.passes (views_of c.args.passes.items)) (sym key) (all_views c.args.self c.args.passes.items c.requires))
