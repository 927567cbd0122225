use Rattle.std.proofs.Common.{◌≡◌, ap, subst, ◌∙◌}
use Rattle.nvm_audit.specs.RecordView.{RecordView}
use Rattle.nvm_audit.specs.Recordable.{IsRecordable}
use Rattle.nvm_audit.specs.Shown.{shown_by}
use Rattle.nvm_file.specs.Upgrade.{AreKnown, IsFirstUnknown}
use Rattle.nvm_file.proofs.SecondVersion.{known_in_second, second_can}
use Rattle.nvm_file.proofs.Unknowns.{none_first}
use Rattle.nvm_file.proofs.upgrading.upgrade.Goals as goal

pub returns-in-Some-clause-each_upgrade : goal.returns-in-Some-clause-each_upgrade
returns-in-Some-clause-each_upgrade c known =
    let same : c.deref.result.now ≡ c.args.run.now.jobs = c.deref.ensures.value ∙ ap (λ (r : RecordView). r.jobs) c.run.view_is in
    absurd (none_first c.args.run.now.jobs c.in-Some.job known (subst (λ jobs. IsFirstUnknown jobs c.in-Some.job) same c.in-Some.ensures.found))

pub returns-in-Some-clause-stays : goal.returns-in-Some-clause-stays
returns-in-Some-clause-stays c is =
    let same : c.deref.result.now ≡ c.args.run.now.jobs = c.deref.ensures.value ∙ ap (λ (r : RecordView). r.jobs) c.run.view_is in
    let known = known_in_second c.args.run.now (subst IsRecordable c.run.view_is c.run.invariant) is in
    absurd (none_first c.args.run.now.jobs c.in-Some.job known (subst (λ jobs. IsFirstUnknown jobs c.in-Some.job) same c.in-Some.ensures.found))

pub invariant_of-run : goal.invariant_of-run
invariant_of-run c =
    second_can (shown_by c.run.inside) c.run.invariant (subst AreKnown c.deref.ensures.value c.in_default.ensures.none)
