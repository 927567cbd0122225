use Rattle.std.proofs.Common.{◌≡◌, ◌<◌, ℕ, length, IsSome, refl, sym, ap, subst, ◌∙◌, rules, arith}
use mathlib.Core.Bool.{true≢false}
use Rattle.nvm_record.specs.Lists.{IsAt}
use Rattle.nvm_plan.specs.JobPart.{job_part_in}
use Rattle.nvm_plan.specs.declared.job.Job.{Job}
use Rattle.nvm_store.specs.HistoryEntry.{HistoryEntry}
use Rattle.nvm_store.specs.Point.{point}
use Rattle.nvm_audit.specs.Inside.Audited.{view_of_shown}
use Rattle.nvm_audit.specs.UnitChecks.{IsEntryRight}
use Rattle.nvm_audit.proofs.Entered.{right_by, wrong_entry, unclaimed_entry}
use Rattle.nvm_audit.proofs.Places.{stands_read}
use Rattle.nvm_audit.proofs.Standing.{one_there}
use Rattle.nvm_audit.proofs.walking.entry_fault.Goals as goal

pub index-requires : goal.index-requires
index-requires c =
    let u = view_of_shown c.args.u.now in
    let at = stands_read u.history c.args.place c.index-entry.result.now c.requires.there c.index-entry.ensures in
    let low = (c.requires.known.entries c.args.place c.index-entry.result.now at).job in
    let same : c.entry.inside.job ≡ c.index-entry.result.now.job = ap (λ (e : HistoryEntry). e.job) c.entry.view_is in
    let below : c.entry.inside.job < length c.args.u.now.jobs.now.items = omega (arith, low, same) in
    search rules

its : (c : goal.After-index) → IsAt c.args.u.now.jobs.now.items c.index-entry.result.now.job c.index.result.now
its c =
    let u = view_of_shown c.args.u.now in
    let entry = c.index-entry.result.now in
    let at = stands_read u.history c.args.place entry c.requires.there c.index-entry.ensures in
    let low = (c.requires.known.entries c.args.place entry at).job in
    let same : c.entry.inside.job ≡ entry.job = ap (λ (e : HistoryEntry). e.job) c.entry.view_is in
    subst (λ (n : ℕ). IsAt c.args.u.now.jobs.now.items n c.index.result.now) same
    (stands_read c.args.u.now.jobs.now.items c.entry.inside.job c.index.result.now (omega (arith, low, same)) c.index.ensures)

pub entry_is_right-requires-clause-fits : goal.entry_is_right-requires-clause-fits
entry_is_right-requires-clause-fits c = c.requires.known.fits c.index-entry.result.now.job c.index.result.now (its c)

pub entry_is_right-requires-clause-there : goal.entry_is_right-requires-clause-there
entry_is_right-requires-clause-there c = λ claimed.
    let u = view_of_shown c.args.u.now in
    let mine = c.index-entry.result.now in
    let job = c.index.result.now in
    let stands = stands_read u.history c.args.place mine c.requires.there c.index-entry.ensures in
    let by = (c.requires.claimed mine stands).0 claimed in
    let part = c.requires.known.parts by.0 by.1 by.2 in
    let same = one_there u.jobs by.1.done.job part.job job part.its (subst (λ (n : ℕ). IsAt u.jobs n job) by.3.job (its c)) in
    subst (λ (n : ℕ). IsSome (job_part_in u.namespace job n)) part.unit
    (subst (λ (j : Job). IsSome (job_part_in u.namespace j by.1.part.unit)) same part.there)

pub returns-then-not-entry_is_right : goal.returns-then-not-entry_is_right
returns-then-not-entry_is_right c = λ entry at.
    let u = view_of_shown c.args.u.now in
    let mine = c.index-entry.result.now in
    let stands = stands_read u.history c.args.place mine c.requires.there c.index-entry.ensures in
    let low = (c.requires.known.entries c.args.place mine stands).job in
    let number : c.entry.inside.job ≡ mine.job = ap (λ (e : HistoryEntry). e.job) c.entry.view_is in
    let job = subst (λ (n : ℕ). IsAt u.jobs n c.index.result.now) number
    (stands_read u.jobs c.entry.inside.job c.index.result.now (omega (arith, low, number)) c.index.ensures) in
    let tells = right_by u c.args.place mine c.index.result.now _ job
    (c.if-not-entry_is_right.ensures (point u.namespace.block_size u.history c.args.place) c.requires.held) in
    let same = one_there u.history c.args.place mine entry stands at in
    wrong_entry u c.args.place entry c.entry.inside.job (number ∙ ap (λ (e : HistoryEntry). e.job) same)
    (λ right. true≢false (sym (tells.1 (subst (λ (e : HistoryEntry). IsEntryRight u c.args.place e) (sym same) right))))

pub returns-then-not-is_claimed : goal.returns-then-not-is_claimed
returns-then-not-is_claimed c = λ entry at.
    let u = view_of_shown c.args.u.now in
    let mine = c.index-entry.result.now in
    let stands = stands_read u.history c.args.place mine c.requires.there c.index-entry.ensures in
    let low = (c.requires.known.entries c.args.place mine stands).job in
    let number : c.entry.inside.job ≡ mine.job = ap (λ (e : HistoryEntry). e.job) c.entry.view_is in
    let job = subst (λ (n : ℕ). IsAt u.jobs n c.index.result.now) number
    (stands_read u.jobs c.entry.inside.job c.index.result.now (omega (arith, low, number)) c.index.ensures) in
    let tells = right_by u c.args.place mine c.index.result.now _ job
    (c.if-not-entry_is_right.ensures (point u.namespace.block_size u.history c.args.place) c.requires.held) in
    let same = one_there u.history c.args.place mine entry stands at in
    let claimed = c.requires.claimed entry at in
    unclaimed_entry u c.args.place entry c.entry.inside.job (number ∙ ap (λ (e : HistoryEntry). e.job) same)
    (subst (λ (e : HistoryEntry). IsEntryRight u c.args.place e) same (tells.0 refl))
    (λ h. true≢false (sym (claimed.1 h) ∙ c.if-not-is_claimed.true))

pub returns : goal.returns
returns c = λ entry at.
    let u = view_of_shown c.args.u.now in
    let mine = c.index-entry.result.now in
    let stands = stands_read u.history c.args.place mine c.requires.there c.index-entry.ensures in
    let low = (c.requires.known.entries c.args.place mine stands).job in
    let number : c.entry.inside.job ≡ mine.job = ap (λ (e : HistoryEntry). e.job) c.entry.view_is in
    let job = subst (λ (n : ℕ). IsAt u.jobs n c.index.result.now) number
    (stands_read u.jobs c.entry.inside.job c.index.result.now (omega (arith, low, number)) c.index.ensures) in
    let tells = right_by u c.args.place mine c.index.result.now _ job
    (c.if-not-entry_is_right.ensures (point u.namespace.block_size u.history c.args.place) c.requires.held) in
    let same = one_there u.history c.args.place mine entry stands at in (
      subst (λ (e : HistoryEntry). IsEntryRight u c.args.place e) same (tells.0 refl),
      ((c.requires.claimed entry at).0 c.if-not-is_claimed.false, tt),
    )
