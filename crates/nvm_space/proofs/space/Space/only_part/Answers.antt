use Rattle.std.proofs.Common.{◌≡◌, ℕ, ◌<◌, ap, sym, subst, ◌∙◌}
use Rattle.nvm_geometry.specs.Boundaries.{unit_number}
use Rattle.nvm_geometry.specs.Large.{IsLarge, region_of, regions_of}
use Rattle.nvm_geometry.specs.Namespace.{Namespace}
use Rattle.nvm_store.specs.Place.{IsCovered}
use Rattle.nvm_store.specs.declared.place.Place.{Place as UnitPlace}
use Rattle.nvm_plan.specs.LentPart.{part_operation_of}
use Rattle.nvm_plan.specs.OnlyPart.{IsOnlyPart}
use Rattle.nvm_plan.specs.UnitPlace.{IsUnitPlace}
use Rattle.nvm_space.specs.Spaces.{SpaceName}
use Rattle.nvm_space.proofs.OnlyParts.{region_covers}
use Rattle.nvm_space.proofs.space.Space.only_part.Goals as goal

pub returns-clause-part : goal.returns-clause-part
returns-clause-part g c = λ job body.
    let ns = c.args.self.now.namespace in
    let part = part_operation_of c.in_ok-part.part in
    let geo : c.self.inside.geometry ≡ ns = ap (λ (s : SpaceName). s.namespace) c.self.view_is in
    let large : IsLarge ns = subst IsLarge geo c.nsze-nsze.ensures.valid in
    let regions : c.self.inside.regions ≡ regions_of ns = c.self.invariant.1 ∙ ap regions_of geo in
    record {
      only = subst (λ (x : Namespace). IsOnlyPart x job (unit_number x part.first) part) geo (c.in_ok-part.ensures.part job body);
      known = subst (λ (x : Namespace). part.first < x.nsze) geo c.in_ok-part.ensures.known;
      here = c.region_of.ensures.value ∙ (ap (λ (x : Namespace). unit_number x c.first.result) regions
          ∙ (ap (unit_number (regions_of ns)) c.first.ensures ∙ c.regions_have_whole_units.ensures.number ns part.first large));
    }

pub returns-clause-covered : goal.returns-clause-covered
returns-clause-covered g c = λ place.
    let ns = c.args.self.now.namespace in
    let part = part_operation_of c.in_ok-part.part in
    let geo : c.self.inside.geometry ≡ ns = ap (λ (s : SpaceName). s.namespace) c.self.view_is in
    let large : IsLarge ns = subst IsLarge geo c.nsze-nsze.ensures.valid in
    let regions : c.self.inside.regions ≡ regions_of ns = c.self.invariant.1 ∙ ap regions_of geo in
    let known : part.first < ns.nsze = subst (λ (x : Namespace). part.first < x.nsze) geo c.in_ok-part.ensures.known in
    let here : c.region_of.result ≡ region_of ns (unit_number ns part.first) = c.region_of.ensures.value ∙ (ap (λ (x : Namespace). unit_number x c.first.result) regions
    ∙ (ap (unit_number (regions_of ns)) c.first.ensures ∙ c.regions_have_whole_units.ensures.number ns part.first large)) in
    subst (λ (k : ℕ). IsUnitPlace (regions_of ns) k place → IsCovered place part) (sym here)
    (region_covers ns (unit_number ns part.first) part place large (c.units_number_the_namespace.ensures.below ns part.first known)
    c.each_unit_has_one_place.ensures.place c.regions_have_whole_units.ensures.covers
    (subst (λ (x : Namespace). (smaller : UnitPlace) → IsUnitPlace x (unit_number x part.first) smaller → IsCovered smaller part) geo c.in_ok-part.ensures.covered))
