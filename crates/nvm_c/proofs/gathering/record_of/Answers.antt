use Rattle.std.proofs.Common.{◌≡◌, ◌∙◌, ℕ, ◌<◌, ◌≤◌, Global, Vec, All, length, map, sym, subst, rules}
use Rattle.std.proofs.lemmas.List.{length-map}
use Rattle.nvm_store.specs.HistoryEntry.{HistoryEntry}
use Rattle.nvm_store.specs.Limit.{IsLimit}
use Rattle.nvm_geometry.specs.Boundaries.{units_of}
use Rattle.nvm_audit.specs.RecordedJob.{RecordedJob}
use Rattle.nvm_c.specs.Inside.Gathering.{CanHoldWork, IsHistoryOf}
use Rattle.nvm_c.proofs.Held.{recordable}
use Rattle.nvm_c.proofs.gathering.record_of.Goals as goal

pub invariant_of-result : goal.invariant_of-result
invariant_of-result c =
    let jobs = c.in_ok-jobs.jobs.items in
    let units = map (λ (h : Vec HistoryEntry Global). h.items) c.in_ok-units.units.items in
    let done = map (λ (w : Vec RecordedJob Global). w.items) c.args.work.done.items in
    let workers : c.len.result ≡ length c.args.work.done.items = search rules in
    let some : 0 < c.len.result = search rules in
    let few : c.len.result ≤ 64 = search rules in
    let count : length units ≡ units_of c.args.work.geometry = length-map c.in_ok-units.units.items (λ h. h.items) ∙ c.in_ok-units.ensures.count in
    let all : length done ≡ c.len.result = length-map c.args.work.done.items (λ w. w.items) ∙ sym workers in
    let works : All (CanHoldWork c.args.work.geometry jobs) done = search rules in
    recordable c.what_jobs_make_can_be_held.ensures.entries c.each_unit_has_one_place.ensures.place c.args.work.geometry c.args.work.limit c.len.result jobs units done
    c.nsze-nsze.ensures.valid (subst IsLimit c.entries-entries.ensures.value c.entries-entries.ensures.valid) some few c.in_ok-jobs.ensures.few c.in_ok-jobs.ensures.fit c.in_ok-jobs.ensures.known
    count
    (λ unit history at. subst (λ (n : ℕ). IsHistoryOf c.args.work.geometry c.args.work.limit jobs n unit history) (sym workers) (c.in_ok-units.ensures.each unit history at)) all works
