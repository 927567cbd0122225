use Rattle.std.proofs.Common.{◌≡◌, ℕ, ◌+◌, ◌<◌, length, ap, subst, sym, arith}
use Rattle.std.proofs.Math.ListN.{set}
use Rattle.nvm_record.specs.Lists.{IsAt}
use Rattle.nvm_audit.specs.RecordedJob.{RecordedJob}
use Rattle.nvm_audit.proofs.Places.{stands_read}
use Rattle.nvm_audit.proofs.Standing.{below}
use Rattle.nvm_audit.specs.declared.done_jobs.DonePlace.{DonePlace}
use Rattle.nvm_audit.proofs.Noting.{IsNoting, none_noted, one_more_noted}
use Rattle.nvm_audit.proofs.done_jobs.note.Goals as goal

pub loop-place-init : goal.loop-place-init
loop-place-init c = λ done by. none_noted done c.args.work.now c.args.places.now

pub bounds-places-job-inside : goal.bounds-places-job-inside
bounds-places-job-inside c =
    let d = c.index-work-place.result in
    let number : c.job.inside.job ≡ d.job = ap (λ (e : RecordedJob). e.job) c.job.view_is in
    let there = stands_read c.args.work.now c.loop-place.place d c.loop-place-test.true c.index-work-place.is in
    let lt = c.requires.numbers c.loop-place.place d there in
    omega (arith, number, lt, c.loop-place.auto.places)

pub loop-place-preserved : goal.loop-place-preserved
loop-place-preserved c = λ done by.
    let work = c.args.work.now in
    let k = c.loop-place.place in
    let d = c.index-work-place.result in
    let there : IsAt work k d = stands_read work k d c.loop-place-test.true c.index-work-place.is in
    let number : d.job ≡ c.job.inside.job = sym (ap (λ (e : RecordedJob). e.job) c.job.view_is) in
    let it : DonePlace = record { worker = c.args.worker; place = k } in
    subst (λ (n : ℕ). IsNoting done work c.args.places.now (set c.loop-place.places n it) (k + 1)) number
    (one_more_noted done work c.args.places.now c.loop-place.places d it (c.loop-place.invariant done by) by there (c.requires.numbers k d there))

pub returns-clause-kept : goal.returns-clause-kept
returns-clause-kept c = λ done number by. (c.loop-place.invariant done by).kept number

pub returns-clause-noted : goal.returns-clause-noted
returns-clause-noted c = λ done place d by there.
    let lt : place < length c.args.work.now = below c.args.work.now place d there in
    (c.loop-place.invariant done by).noted place (omega (arith, lt, c.loop-place-test.false)) d there
