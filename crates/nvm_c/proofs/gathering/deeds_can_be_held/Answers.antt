use Rattle.std.proofs.Common.{◌<◌, ◌≤◌, All, length, refl, rules, subst}
use Rattle.nvm_geometry.specs.Boundaries.{units_of}
use Rattle.nvm_c.specs.Inside.Gathering.{HoldsFor}
use Rattle.nvm_c.proofs.gathering.deeds_can_be_held.Goals as goal

pub returns : goal.returns
returns c = λ yes.
    let few : length c.did.inside.parts.items ≤ units_of c.args.geometry = search rules in
    subst (HoldsFor c.args.geometry c.args.job.now) c.did.view_is (record {
      few = few;
      units = subst (All (λ part. part.unit < units_of c.args.geometry)) c.as_slice.ensures (c.if-not-lie_in_units.ensures refl);
      statuses = c.if-not-are_for_each.ensures refl;
      payload = c.is_as_long.ensures yes;
    })
