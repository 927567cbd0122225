use Rattle.std.proofs.Common.{◌≡◌, ℕ, IsSome, ap, sym, refl, subst}
use Rattle.nvm_geometry.specs.Boundaries.{unit_number}
use Rattle.nvm_geometry.specs.Parts.{piece_in}
use Rattle.nvm_plan.specs.JobPart.{job_part_in}
use Rattle.nvm_store.specs.declared.place.Place.{Place}
use Rattle.nvm_plan.specs.LentPart.{part_operation_of}
use Rattle.nvm_plan.specs.UnitPlace.{IsUnitPlace}
use Rattle.nvm_space.specs.UnderWay.{UnderWay, next_unit}
use Rattle.nvm_space.proofs.NextParts.{covered_too, next_known, next_there}
use Rattle.nvm_space.proofs.under_way.JobUnderWay.next_part.Goals as goal

pub part_at-requires-clause-there : goal.part_at-requires-clause-there
part_at-requires-clause-there c =
    let ns = c.args.geometry.now in
    let job = c.args.job.now in
    let under = c.requires.under_way in
    let lba : c.self.inside.lba ≡ c.args.self.now.lba = ap (λ (w : UnderWay). w.lba) c.self.view_is in
    subst (λ (x : ℕ). IsSome (job_part_in ns job (unit_number ns x))) (sym lba)
    (next_there ns under.2 job c.args.self.now under.0 under.1 (c.parts_of_jobs.ensures.part ns job) under.3)

pub returns-clause-known : goal.returns-clause-known
returns-clause-known c = c.requires.under_way.3.known

pub returns-clause-covered : goal.returns-clause-covered
returns-clause-covered c = λ place here.
    let ns = c.args.geometry.now in
    let job = c.args.job.now in
    let w = c.args.self.now in
    let unit = next_unit ns w in
    let under = c.requires.under_way in
    let large = c.nsze-nsze.ensures.valid in
    let known = next_known ns under.2 job w under.0 under.1 (c.parts_of_jobs.ensures.units ns job) (c.parts_of_jobs.ensures.inside ns job) under.3 in
    let lbas = c.each_unit_has_one_place.ensures.place ns unit large.some known in
    let inner : Place = record { first = (piece_in ns 0 ns.nsze unit).first; blocks = (piece_in ns 0 ns.nsze unit).blocks; size = ns.block_size } in
    let its : IsUnitPlace ns unit inner = record { lbas = lbas; size = refl } in
    let lba : c.self.inside.lba ≡ w.lba = ap (λ (x : UnderWay). x.lba) c.self.view_is in
    let covered = c.part_at.ensures.covered inner (subst (λ (x : ℕ). IsUnitPlace ns (unit_number ns x) inner) (sym lba) its) in
    let covers = c.regions_have_whole_units.ensures.covers ns unit inner.first inner.blocks place.first place.blocks large lbas here.lbas in
    covered_too place inner (part_operation_of c.part_at.result) here.size covers.0 covers.1 covered
