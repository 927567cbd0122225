use Rattle.std.proofs.Common.{◌≡◌, ◌<◌, Some, ap, length, refl, rules, subst}
use Rattle.std.specs.Prelude.{slice_get}
use Rattle.std.proofs.lemmas.Option.{slice_get_read}
use Rattle.nvm_geometry.specs.Namespace.{Namespace}
use Rattle.nvm_plan.specs.UnitPlace.{IsUnitPlace}
use Rattle.nvm_store.specs.Contents.{place_of}
use Rattle.nvm_audit.specs.RecordView.{RecordView}
use Rattle.nvm_explain.proofs.Covering.{covered_got}
use Rattle.nvm_explain.proofs.entry_story.push_entry_story.Goals as goal

pub push_given-requires : goal.push_given-requires
push_given-requires c =
    let ns : c.run.inside.geometry ≡ c.args.run.now.namespace = ap (λ (r : RecordView). r.namespace) c.run.view_is in
    let low : c.args.spot.place < length c.in-Some.history.now = search rules in
    let got : slice_get c.in-Some.history.now c.args.spot.place ≡ Some c.in-Some-get.entry.now =
    slice_get_read _ _ _ _ refl low c.in-Some-get.ensures.lookup.1
    in
    let here = rw c.in-Some-2.is at c.in_ok-at.ensures in
    let lies = subst (λ (n : Namespace). IsUnitPlace n c.args.spot.unit (place_of c.in-Some-2.at.blocks)) ns here.2.lies in
    covered_got _ _ _ _ _ c.in-Some.ensures.covered got _ lies
