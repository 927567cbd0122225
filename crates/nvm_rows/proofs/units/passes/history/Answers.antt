use Rattle.std.proofs.Common.{◌≡◌, List, ◌∙◌, ap, subst, sym}
use Rattle.nvm_store.specs.History.{IsLawfulHistory}
use Rattle.nvm_store.specs.HistoryEntry.{HistoryEntry}
use Rattle.nvm_store.specs.declared.place.Place.{Place}
use Rattle.nvm_unit.specs.declared.bounds.Bounds.{Bounds}
use Rattle.nvm_rows.proofs.units.passes.history.Goals as goal

-- What a pass has seen is lawful where its unit lies.
pub with_blocks-requires : goal.with_blocks-requires
with_blocks-requires g c =
    let view = c.history.new.pass.view in
    subst (λ (h : List HistoryEntry). IsLawfulHistory c.place-place.result h) (sym c.in-Ok.ensures.seen)
    (subst (λ (p : Place). IsLawfulHistory p view.seen) (ap (λ (b : Bounds). b.place) c.history.ensures.of.bounds ∙ sym c.place-place.ensures) c.history.ensures.proper.seen.lawful)
