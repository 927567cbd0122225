use Rattle.std.proofs.Common.{ℕ, sym, ap, subst}
use Rattle.nvm_plan.specs.UnitPlace.{IsUnitPlace}
use Rattle.nvm_store.specs.Contents.{place_of}
use Rattle.nvm_audit.specs.RecordedPart.{RecordedPart}
use Rattle.nvm_audit.proofs.judging.judge_part.Goals as goal

pub judge_lent-requires-clause-covers : goal.judge_lent-requires-clause-covers
judge_lent-requires-clause-covers c =
    let place = place_of c.args.blocks.now in
    let same = ap (λ (p : RecordedPart). p.part.unit) c.p.view_is in
    c.job_part_there-part.ensures.covered place
    (subst (λ (unit : ℕ). IsUnitPlace c.args.geometry.now unit place) (sym same) c.requires.lies)
