use Rattle.std.proofs.Common.{◌≡◌, ◌≤◌, ℕ, List, length, map, get_or, sym, ap, ◌∙◌, subst, arith}
use Rattle.std.proofs.lemmas.List.{length-map}
use Rattle.nvm_record.specs.Lists.{IsAt}
use Rattle.nvm_audit.specs.RecordView.{RecordView}
use Rattle.nvm_audit.specs.RecordedJob.{RecordedJob}
use Rattle.nvm_audit.specs.Shown.{shown_by}
use Rattle.nvm_audit.proofs.Standing.{below}
use Rattle.nvm_audit.specs.DoneJobs.{IsDoneJob}
use Rattle.nvm_audit.specs.DonePlaces.{IsDonePlace, IsNoted}
use Rattle.nvm_audit.proofs.LawfulDone.{has_statuses}
use Rattle.nvm_audit.proofs.Reading.{done_job, place_below, read_place, worker_below}
use Rattle.nvm_audit.proofs.done_jobs.DoneJobs.job.Goals as goal

pub index-there-requires : goal.index-there-requires
index-there-requires c =
    let noted = c.requires.found c.args.number c.requires.number in
    let lt = below c.args.self.now c.args.number noted.there noted.noted in
    let long : length c.self.inside.places.items ≡ length c.args.self.now = ap length c.self.view_is in
    omega (arith, lt, long, c.self.inside.places.ok.0)

pub offset_bounds-done-from : goal.offset_bounds-done-from
offset_bounds-done-from c =
    let done = c.as_slice-done.result.now in
    let it = c.index-there.result.now in
    let noted : IsNoted (map (λ work. work.items) done) c.self.inside.places.items c.args.number =
    rw (c.as_slice-done.ensures.value, c.self.view_is)
    (subst (λ (x : RecordView). IsNoted x.done c.args.self.now c.args.number) (sym c.run.view_is)
    (c.requires.found c.args.number c.requires.number)) in
    let is : IsDonePlace (map (λ work. work.items) done) c.args.number it =
    read_place (map (λ work. work.items) done) c.self.inside.places.items c.args.number it _ noted c.index-there.ensures in
    let lt = worker_below (λ work. work.items) done c.args.number it is in
    let few : length done ≤ 64 = omega (arith, c.run.invariant.few_workers, c.run.invariant.all_workers, length-map c.run.inside.done.items (λ work. work.items), ap length c.as_slice-done.ensures.value) in
    omega (arith, lt, few, c.from.ensures)

pub bounds-done-from : goal.bounds-done-from
bounds-done-from c =
    let done = c.as_slice-done.result.now in
    let it = c.index-there.result.now in
    let noted : IsNoted (map (λ work. work.items) done) c.self.inside.places.items c.args.number =
    rw (c.as_slice-done.ensures.value, c.self.view_is)
    (subst (λ (x : RecordView). IsNoted x.done c.args.self.now c.args.number) (sym c.run.view_is)
    (c.requires.found c.args.number c.requires.number)) in
    let is : IsDonePlace (map (λ work. work.items) done) c.args.number it =
    read_place (map (λ work. work.items) done) c.self.inside.places.items c.args.number it _ noted c.index-there.ensures in
    let lt = worker_below (λ work. work.items) done c.args.number it is in
    omega (arith, lt, c.from.ensures)

pub index-requires : goal.index-requires
index-requires c =
    let done = c.as_slice-done.result.now in
    let it = c.index-there.result.now in
    let noted : IsNoted (map (λ work. work.items) done) c.self.inside.places.items c.args.number =
    rw (c.as_slice-done.ensures.value, c.self.view_is)
    (subst (λ (x : RecordView). IsNoted x.done c.args.self.now c.args.number) (sym c.run.view_is)
    (c.requires.found c.args.number c.requires.number)) in
    let is : IsDonePlace (map (λ work. work.items) done) c.args.number it =
    read_place (map (λ work. work.items) done) c.self.inside.places.items c.args.number it _ noted c.index-there.ensures in
    let at : c.index-done-from.result ≡ get_or done it.worker c.index-done-from.result =
    subst (λ (n : ℕ). c.index-done-from.result ≡ get_or done n c.index-done-from.result) c.from.ensures c.index-done-from.is in
    let lt = place_below (λ work. work.items) done c.args.number it is c.index-done-from.result at in
    omega (arith, lt, c.index-done-from.result.ok.0)

pub returns-clause-its : goal.returns-clause-its
returns-clause-its c =
    let done = c.as_slice-done.result.now in
    let it = c.index-there.result.now in
    let noted : IsNoted (map (λ work. work.items) done) c.self.inside.places.items c.args.number =
    rw (c.as_slice-done.ensures.value, c.self.view_is)
    (subst (λ (x : RecordView). IsNoted x.done c.args.self.now c.args.number) (sym c.run.view_is)
    (c.requires.found c.args.number c.requires.number)) in
    let is : IsDonePlace (map (λ work. work.items) done) c.args.number it =
    read_place (map (λ work. work.items) done) c.self.inside.places.items c.args.number it _ noted c.index-there.ensures in
    let at : c.index-done-from.result ≡ get_or done it.worker c.index-done-from.result =
    subst (λ (n : ℕ). c.index-done-from.result ≡ get_or done n c.index-done-from.result) c.from.ensures c.index-done-from.is in
    let seen : map (λ work. work.items) done ≡ c.args.run.now.done =
    ap (map (λ work. work.items)) c.as_slice-done.ensures.value ∙ ap (λ (x : RecordView). x.done) c.run.view_is in
    subst (λ (d : List (List RecordedJob)). IsDoneJob d c.args.number c.index.result.now) seen
    (done_job (λ work. work.items) done c.args.number it is c.index-done-from.result at c.index.result.now _ c.index.ensures)

pub returns-clause-statuses : goal.returns-clause-statuses
returns-clause-statuses c = λ job of.
    let done = c.as_slice-done.result.now in
    let it = c.index-there.result.now in
    let noted : IsNoted (map (λ work. work.items) done) c.self.inside.places.items c.args.number =
    rw (c.as_slice-done.ensures.value, c.self.view_is)
    (subst (λ (x : RecordView). IsNoted x.done c.args.self.now c.args.number) (sym c.run.view_is)
    (c.requires.found c.args.number c.requires.number)) in
    let is : IsDonePlace (map (λ work. work.items) done) c.args.number it =
    read_place (map (λ work. work.items) done) c.self.inside.places.items c.args.number it _ noted c.index-there.ensures in
    let at : c.index-done-from.result ≡ get_or done it.worker c.index-done-from.result =
    subst (λ (n : ℕ). c.index-done-from.result ≡ get_or done n c.index-done-from.result) c.from.ensures c.index-done-from.is in
    let r = shown_by c.run.inside in
    let its : IsDoneJob r.done c.args.number c.index.result.now =
    subst (λ (d : List (List RecordedJob)). IsDoneJob d c.args.number c.index.result.now) (ap (map (λ work. work.items)) c.as_slice-done.ensures.value)
    (done_job (λ work. work.items) done c.args.number it is c.index-done-from.result at c.index.result.now _ c.index.ensures) in
    has_statuses r c.run.invariant c.args.number c.index.result.now its job
    (subst (λ (x : RecordView). IsAt x.jobs c.args.number job) (sym c.run.view_is) of)
