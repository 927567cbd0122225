use Rattle.std.proofs.Common.{◌≡◌, ◌<◌, ℕ, length, sym, ap, subst, ◌∙◌, rules, arith}
use Rattle.nvm_plan.specs.UnitPlace.{IsUnitPlace}
use Rattle.nvm_store.specs.Contents.{place_of, Holds}
use Rattle.nvm_store.specs.Point.{point}
use Rattle.nvm_audit.specs.Inside.Audited.{view_of_shown, IsJudged}
use Rattle.nvm_audit.specs.RecordedJob.{RecordedJob}
use Rattle.nvm_audit.specs.RecordedPart.{RecordedPart}
use Rattle.nvm_audit.proofs.Findings.{IsReadJob, has_job, read_job, found}
use Rattle.nvm_audit.proofs.Places.{stands_read}
use Rattle.nvm_audit.proofs.Standing.{one_there}
use Rattle.nvm_audit.proofs.walking.finding.Goals as goal

pub index-requires : goal.index-requires
index-requires c =
    let u = view_of_shown c.args.u.now in
    let p = c.index-p.result.now in
    let at = stands_read u.parts c.args.k p c.requires.there c.index-p.ensures in
    let low = has_job u c.requires.known c.args.k p at in
    let job : c.done.inside.job ≡ p.done.job =
    ap (λ (d : RecordedJob). d.job) c.done.view_is ∙ ap (λ (q : RecordedPart). q.done.job) c.p.view_is in
    let below : c.done.inside.job < length c.args.u.now.jobs.now.items = omega (arith, low, job) in
    search rules

read : (c : goal.After-index) → IsReadJob (view_of_shown c.args.u.now) c.index-p.result.now c.index.result.now
read c =
    let u = view_of_shown c.args.u.now in
    let p = c.index-p.result.now in
    let at = stands_read u.parts c.args.k p c.requires.there c.index-p.ensures in
    let job : c.done.inside.job ≡ p.done.job =
    ap (λ (d : RecordedJob). d.job) c.done.view_is ∙ ap (λ (q : RecordedPart). q.done.job) c.p.view_is in
    read_job u c.requires.known c.args.k p at c.done.inside.job c.index.result.now job c.index.ensures

pub judge_part-requires-clause-fits : goal.judge_part-requires-clause-fits
judge_part-requires-clause-fits c = (read c).fits

pub judge_part-requires-clause-whole : goal.judge_part-requires-clause-whole
judge_part-requires-clause-whole c = (read c).whole

pub judge_part-requires-clause-there : goal.judge_part-requires-clause-there
judge_part-requires-clause-there c = (read c).there

pub judge_part-requires-clause-lies : goal.judge_part-requires-clause-lies
judge_part-requires-clause-lies c =
    let u = view_of_shown c.args.u.now in
    let p = c.index-p.result.now in
    let at = stands_read u.parts c.args.k p c.requires.there c.index-p.ensures in
    subst (λ (unit : ℕ). IsUnitPlace u.namespace unit (place_of c.args.blocks.now)) (sym (c.requires.known.parts c.args.k p at).unit)
    c.requires.lies

pub returns : goal.returns
returns c = λ p at within held.
    let u = view_of_shown c.args.u.now in
    let mine = c.index-p.result.now in
    let job = c.index.result.now in
    let stands = stands_read u.parts c.args.k mine c.requires.there c.index-p.ensures in
    let number : c.done.inside.job ≡ mine.done.job =
    ap (λ (d : RecordedJob). d.job) c.done.view_is ∙ ap (λ (q : RecordedPart). q.done.job) c.p.view_is in
    let its = read_job u c.requires.known c.args.k mine stands c.done.inside.job job number c.index.ensures in
    let same = one_there u.parts c.args.k p mine at stands in
    let holds = subst (λ (q : RecordedPart). Holds c.args.blocks.now (point u.namespace.block_size u.history q.part.point)) same held in
    subst (λ (q : RecordedPart). IsJudged u q c.judge_part.result) (sym same)
    (found u c.requires.known c.args.k mine stands job c.judge_part.result its
    (λ op ready. c.judge_part.ensures op (point u.namespace.block_size u.history mine.part.point) ready holds))
