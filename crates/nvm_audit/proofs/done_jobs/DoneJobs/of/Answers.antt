use Rattle.std.proofs.Common.{◌≡◌, ◌≤◌, ℕ, List, ◌++◌, length, take, drop, rules, sym, ap, ◌∙◌, subst, arith}
use Rattle.std.proofs.Math.Seq.{take-append_seam}
use Rattle.std.proofs.lemmas.List.{length-map}
use Rattle.nvm_record.specs.Lists.{IsAt}
use Rattle.nvm_audit.specs.RecordView.{RecordView}
use Rattle.nvm_audit.specs.Recordable.{IsRecordableWork}
use Rattle.nvm_audit.specs.RecordedJob.{RecordedJob}
use Rattle.nvm_audit.specs.Shown.{shown_by}
use Rattle.nvm_audit.proofs.Counting.{item_in_map}
use Rattle.nvm_audit.proofs.Standing.{all_at}
use Rattle.nvm_audit.specs.Inside.Noted.{AreNoted}
use Rattle.nvm_audit.specs.declared.done_jobs.DonePlace.{DonePlace}
use Rattle.nvm_audit.proofs.LawfulDone.{each_noted, of_jobs}
use Rattle.nvm_audit.proofs.Noting.{one_more_worker}
use Rattle.nvm_audit.proofs.done_jobs.DoneJobs.of.Goals as goal

pub note-requires-clause-few : goal.note-requires-clause-few
note-requires-clause-few c =
    let r = shown_by c.run.inside in
    let worker = c.loop-worker.worker in
    let its : IsAt r.done worker c.deref.result.now =
    subst (λ (work : List RecordedJob). IsAt r.done worker work) (sym c.deref.ensures.value)
    (item_in_map (λ work. work.items) c.as_slice-done.result.now c.run.inside.done.items worker c.index-done-worker.result c.as_slice-done.ensures.value c.loop-worker-test.true c.index-done-worker.is) in
    (all_at (IsRecordableWork r) r.done c.run.invariant.done worker c.deref.result.now its).few

pub note-requires-clause-numbers : goal.note-requires-clause-numbers
note-requires-clause-numbers c = λ place d there.
    let r = c.args.run.now in
    let worker = c.loop-worker.worker in
    let its : IsAt (shown_by c.run.inside).done worker c.deref.result.now =
    subst (λ (work : List RecordedJob). IsAt (shown_by c.run.inside).done worker work) (sym c.deref.ensures.value)
    (item_in_map (λ work. work.items) c.as_slice-done.result.now c.run.inside.done.items worker c.index-done-worker.result c.as_slice-done.ensures.value c.loop-worker-test.true c.index-done-worker.is) in
    let lt = of_jobs r c.requires worker place c.deref.result.now d (subst (λ (x : RecordView). IsAt x.done worker c.deref.result.now) c.run.view_is its) there in
    let jobs : c.len-jobs.result ≡ length c.run.inside.jobs.items = search rules in
    let seen : length c.run.inside.jobs.items ≡ length r.jobs = ap (λ (x : RecordView). length x.jobs) c.run.view_is in
    let long : length c.deref_mut.result.now ≡ c.len-jobs.result = ap length c.deref_mut.ensures.value ∙ c.loop-worker.invariant.0 in
    omega (arith, lt, jobs, seen, long)

pub loop-worker-preserved : goal.loop-worker-preserved
loop-worker-preserved c =
    let r = c.args.run.now in
    let worker = c.loop-worker.worker in
    let its : IsAt (shown_by c.run.inside).done worker c.deref.result.now =
    subst (λ (work : List RecordedJob). IsAt (shown_by c.run.inside).done worker work) (sym c.deref.ensures.value)
    (item_in_map (λ work. work.items) c.as_slice-done.result.now c.run.inside.done.items worker c.index-done-worker.result c.as_slice-done.ensures.value c.loop-worker-test.true c.index-done-worker.is) in
    let by : IsAt r.done worker c.deref.result.now = subst (λ (x : RecordView). IsAt x.done worker c.deref.result.now) c.run.view_is its in
    let new = c.note.new.places in
    let old = c.loop-worker.places.items in
    let long : c.loop-worker.places.len ≡ length new = omega arith in
    let whole : take c.loop-worker.places.len (new ++ drop (length new) old) ≡ new =
    ap (λ (n : ℕ). take n (new ++ drop (length new) old)) long ∙ take-append_seam new (drop (length new) old) in
    let so_far : AreNoted worker r.done c.deref_mut.result.now =
    subst (λ (places : List DonePlace). AreNoted worker r.done places) (sym c.deref_mut.ensures.value) c.loop-worker.invariant.1 in
    rw whole (
      c.note.auto.places ∙ ap length c.deref_mut.ensures.value ∙ c.loop-worker.invariant.0,
      one_more_worker r.done worker c.deref.result.now c.deref_mut.result.now new by so_far
          (λ number. c.note.ensures.kept r.done number by) (λ place d. c.note.ensures.noted r.done place d by),
    )

pub returns : goal.returns
returns c =
    let r = c.args.run.now in
    let done = c.run.inside.done.items in
    let seen : length r.done ≡ length done = ap (λ (x : RecordView). length x.done) (sym c.run.view_is) ∙ length-map done (λ work. work.items) in
    let slice : length c.as_slice-done.result.now ≡ length done = ap length c.as_slice-done.ensures.value in
    let past : length r.done ≤ c.loop-worker.worker = omega (arith, seen, slice, c.loop-worker-test.false) in
    each_noted r c.requires c.loop-worker.places.items
    (λ worker work place d lt. c.loop-worker.invariant.1 worker work place d (omega (arith, lt, past)))
