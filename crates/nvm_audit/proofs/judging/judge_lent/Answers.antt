use Rattle.std.proofs.Common.{refl, sym, ap}
use mathlib.Core.Bool.{true≢false}
use Rattle.nvm_geometry.specs.Parts.{part_in}
use Rattle.nvm_plan.specs.JobPart.{ready_operation}
use Rattle.nvm_plan.specs.LentPart.{part_operation_of}
use Rattle.nvm_audit.specs.RecordedPart.{RecordedPart}
use Rattle.nvm_audit.proofs.Judged.{part_of_whole, ends_by}
use Rattle.nvm_audit.proofs.judging.judge_lent.Goals as goal

pub returns-then-data_is_right : goal.returns-then-data_is_right
returns-then-data_is_right c = λ op m ready held.
    let lent = part_operation_of c.args.part.now in
    let whole = part_of_whole c.args.geometry.now (ready_operation c.args.geometry.now c.args.job.now) c.args.p.now.part.unit lent op
    c.requires.is ready in
    let same = ends_by c.args.limit c.entries.result lent (part_in c.args.geometry.now op c.args.p.now.part.unit) m c.args.p.now
    c.p.inside.part c.is_act.result c.told.result c.given_statuses-given.result c.entries.ensures.value
    (ap (λ (p : RecordedPart). p.part) c.p.view_is) c.is_act.ensures c.told.ensures (c.given_statuses-given.ensures m held) whole in
    (same.0 (c.if-not-may_end.ensures.0 refl), (c.if-data_is_right.ensures op m ready held).0 refl)

pub returns-else-data_is_right : goal.returns-else-data_is_right
returns-else-data_is_right c = λ op m ready held.
    let lent = part_operation_of c.args.part.now in
    let whole = part_of_whole c.args.geometry.now (ready_operation c.args.geometry.now c.args.job.now) c.args.p.now.part.unit lent op
    c.requires.is ready in
    let same = ends_by c.args.limit c.entries.result lent (part_in c.args.geometry.now op c.args.p.now.part.unit) m c.args.p.now
    c.p.inside.part c.is_act.result c.told.result c.given_statuses-given.result c.entries.ensures.value
    (ap (λ (p : RecordedPart). p.part) c.p.view_is) c.is_act.ensures c.told.ensures (c.given_statuses-given.ensures m held) whole in (
      same.0 (c.if-not-may_end.ensures.0 refl),
      λ h. absurd (true≢false (sym ((c.if-data_is_right.ensures op m ready held).1 h))),
    )
