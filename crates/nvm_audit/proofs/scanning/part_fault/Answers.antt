use Rattle.std.proofs.Common.{◌≡◌, refl, sym, ap, subst, ◌∙◌, arith}
use mathlib.Core.Bool.{true≢false}
use Rattle.nvm_audit.specs.declared.judging.Finding.{Finding}
use Rattle.nvm_audit.specs.Inside.Audited.{view_of_shown, IsJudged}
use Rattle.nvm_audit.specs.RecordedJob.{RecordedJob}
use Rattle.nvm_audit.specs.RecordedPart.{RecordedPart}
use Rattle.nvm_audit.specs.UnitChecks.{HasItsPoint}
use Rattle.nvm_audit.proofs.Scans.{status_of, not_back, goes_back, past, back, wrong_status, wrong_data}
use Rattle.nvm_audit.proofs.scanning.part_fault.Goals as goal

pub returns-then-not-has_its_point : goal.returns-then-not-has_its_point
returns-then-not-has_its_point c = λ before least.
    let u = view_of_shown c.args.u.now in
    let p = c.args.part.now in
    let number : c.done.inside.job ≡ p.done.job =
    ap (λ (d : RecordedJob). d.job) c.done.view_is ∙ ap (λ (q : RecordedPart). q.done.job) c.part.view_is in
    let place = ap (λ (q : RecordedPart). q.part.point) c.part.view_is in
    past u before p c.done.inside.job c.part.inside.part.point number place
    (λ h. true≢false (sym (c.if-not-has_its_point.ensures.1 (h.within, h.made))))

pub returns-then-part-least : goal.returns-then-part-least
returns-then-part-least c = λ before least.
    let u = view_of_shown c.args.u.now in
    let p = c.args.part.now in
    let number : c.done.inside.job ≡ p.done.job =
    ap (λ (d : RecordedJob). d.job) c.done.view_is ∙ ap (λ (q : RecordedPart). q.done.job) c.part.view_is in
    let place : c.part.inside.part.point ≡ p.part.point = ap (λ (q : RecordedPart). q.part.point) c.part.view_is in
    let h = c.if-not-has_its_point.ensures.0 refl in
    let has : HasItsPoint u p = record { within = h.0; made = h.1 } in
    let low = c.if-part-least.true in
    back u before p c.done.inside.job c.part.inside.part.point number place has
    (goes_back before p c.args.least least (omega (arith, low, place)))

pub returns-in-Right : goal.returns-in-Right
returns-in-Right c = λ before least.
    let u = view_of_shown c.args.u.now in
    let p = c.args.part.now in
    let place : c.part.inside.part.point ≡ p.part.point = ap (λ (q : RecordedPart). q.part.point) c.part.view_is in
    let h = c.if-not-has_its_point.ensures.0 refl in
    let has : HasItsPoint u p = record { within = h.0; made = h.1 } in
    let high = c.if-part-least.false in
    let on = not_back before p c.args.least least (omega (arith, high, place)) in
    let judged = subst (λ (f : Finding). IsJudged u p f) c.in-Right.is (c.requires.judged h.0) in
    (has, (on, (status_of c.success_is_told_alike.ensures u p c.requires.entries c.requires.unit has judged.0, (judged.1, tt))))

pub returns-in-StatusWrong : goal.returns-in-StatusWrong
returns-in-StatusWrong c = λ before least.
    let u = view_of_shown c.args.u.now in
    let p = c.args.part.now in
    let number : c.done.inside.job ≡ p.done.job =
    ap (λ (d : RecordedJob). d.job) c.done.view_is ∙ ap (λ (q : RecordedPart). q.done.job) c.part.view_is in
    let place : c.part.inside.part.point ≡ p.part.point = ap (λ (q : RecordedPart). q.part.point) c.part.view_is in
    let h = c.if-not-has_its_point.ensures.0 refl in
    let has : HasItsPoint u p = record { within = h.0; made = h.1 } in
    let high = c.if-part-least.false in
    let on = not_back before p c.args.least least (omega (arith, high, place)) in
    let judged = subst (λ (f : Finding). IsJudged u p f) c.in-StatusWrong.is (c.requires.judged h.0) in
    wrong_status u before p c.done.inside.job c.part.inside.part.point number place has on judged.1

pub returns-in-DataWrong : goal.returns-in-DataWrong
returns-in-DataWrong c = λ before least.
    let u = view_of_shown c.args.u.now in
    let p = c.args.part.now in
    let number : c.done.inside.job ≡ p.done.job =
    ap (λ (d : RecordedJob). d.job) c.done.view_is ∙ ap (λ (q : RecordedPart). q.done.job) c.part.view_is in
    let place : c.part.inside.part.point ≡ p.part.point = ap (λ (q : RecordedPart). q.part.point) c.part.view_is in
    let h = c.if-not-has_its_point.ensures.0 refl in
    let has : HasItsPoint u p = record { within = h.0; made = h.1 } in
    let high = c.if-part-least.false in
    let on = not_back before p c.args.least least (omega (arith, high, place)) in
    let judged = subst (λ (f : Finding). IsJudged u p f) c.in-DataWrong.is (c.requires.judged h.0) in
    wrong_data u before p c.done.inside.job c.part.inside.part.point number place has on
    (status_of c.success_is_told_alike.ensures u p c.requires.entries c.requires.unit has judged.0) judged.1
