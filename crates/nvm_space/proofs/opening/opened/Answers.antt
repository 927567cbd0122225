use Rattle.std.proofs.Common.{◌≡◌, ◌+◌, ◌∙◌, ap, subst, sym, [], ◌∷◌, ◌++◌, List, length, arith}
use Rattle.nvm_geometry.specs.Boundaries.{units_of}
use Rattle.nvm_geometry.specs.Large.{regions_of}
use Rattle.nvm_geometry.specs.Namespace.{Namespace}
use Rattle.nvm_unit.specs.declared.bounds.Bounds.{Bounds}
use Rattle.nvm_unit.specs.Passes.{UnitName}
use Rattle.nvm_plan.specs.UnitPlace.{IsUnitPlace}
use Rattle.nvm_store.specs.declared.place.Place.{Place}
use Rattle.nvm_space.specs.Inside.Dealing.{AreDealt}
use Rattle.nvm_space.proofs.NewPorts.{AreLaid, laid_none, laid_one_more, all_laid, dealt_one_more, all_dealt}
use Rattle.nvm_space.proofs.opening.opened.Goals as goal

pub loop-number-init : goal.loop-number-init
loop-number-init g c = record {
  laid = subst (λ (us : List UnitName). AreLaid c.args.geometry.now c.args.ports c.args.limit.now c.args.versions 0 us) (sym c.in_ok-units.ensures.items) (laid_none c.args.geometry.now c.args.ports c.args.limit.now c.args.versions);
  dealt = subst (λ (us : List UnitName). AreDealt c.args.ports us c.in_ok-dealt.dealt.items) (sym c.in_ok-units.ensures.items) c.in_ok-dealt.ensures;
}

pub hand_out-requires : goal.hand_out-requires
hand_out-requires g c =
    ap length c.in-Ok.ensures.passes ∙ (c.new_passes_are_all.ensures.all c.in-Ok.unit).count ∙ ap (λ (b : Bounds). b.passes) c.in-Ok.ensures.bounds ∙ sym c.loop-number.invariant.dealt.count

pub loop-number-preserved : goal.loop-number-preserved
loop-number-preserved g c =
    let pushed : c.push.new.self.items ≡ c.loop-number.units.items ++ c.in-Ok.unit ∷ [] = c.in_ok-push.ensures.items in
    let bounds = c.in-Ok.ensures.bounds in
    record {
      laid = subst (λ (us : List UnitName). AreLaid c.args.geometry.now c.args.ports c.args.limit.now c.args.versions (c.loop-number.number + 1) us) (sym pushed)
          (laid_one_more c.args.geometry.now c.args.ports c.args.limit.now c.args.versions c.loop-number.number c.loop-number.units.items c.in-Ok.unit c.loop-number.invariant.laid (record {
            number = c.in-Ok.ensures.number;
            place = subst (λ (p : Place). IsUnitPlace (regions_of c.args.geometry.now) c.loop-number.number p) (sym (ap (λ (b : Bounds). b.place) bounds))
                (subst (λ (ns : Namespace). IsUnitPlace ns c.loop-number.number c.region_place-place.result) c.requires.regions c.region_place-place.ensures.place);
            passes = ap (λ (b : Bounds). b.passes) bounds;
            limit = ap (λ (b : Bounds). b.limit) bounds ∙ c.most_entries-most.ensures.most;
            versions = c.in-Ok.ensures.versions;
          }));
      dealt = subst (λ (us : List UnitName). AreDealt c.args.ports us c.hand_out.new.ports.items) (sym pushed)
          (dealt_one_more c.args.ports c.loop-number.units.items c.in-Ok.unit c.in-Ok.passes.items c.loop-number.dealt.items c.hand_out.new.ports.items
          (c.new_passes_are_all.ensures.each c.in-Ok.unit) c.in-Ok.ensures.passes c.loop-number.invariant.dealt c.in_ok-hand_out.ensures);
    }

pub returns-clause-units : goal.returns-clause-units
returns-clause-units g c =
    all_laid c.args.geometry.now c.args.ports c.args.limit.now c.args.versions c.loop-number.number c.loop-number.units.items c.loop-number.invariant.laid
    (let end : c.loop-number.number ≡ c.count-count.result = omega (arith, c.loop-number.auto.number-end, c.loop-number-test.false) in end ∙ c.count-count.ensures.value ∙ ap units_of c.requires.regions)

pub returns-clause-ports : goal.returns-clause-ports
returns-clause-ports g c = all_dealt c.args.geometry.now c.args.ports c.args.limit.now c.args.versions c.loop-number.units.items c.loop-number.dealt.items c.loop-number.invariant.dealt
