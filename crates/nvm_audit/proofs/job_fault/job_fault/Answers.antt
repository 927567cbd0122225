use Rattle.std.proofs.Common.{◌≡◌, ℕ, [], ◌∷◌, length, subst, arith}
use Rattle.nvm_audit.specs.Inside.Occurrences.{AreCounted}
use Rattle.nvm_audit.specs.RecordChecks.{job_done, job_once, Passes, count_checks, shape_checks}
use Rattle.nvm_audit.specs.RecordView.{RecordView}
use Rattle.nvm_audit.specs.Recordable.{IsRecordableDone, IsRecordableWork}
use Rattle.nvm_audit.specs.Shown.{shown_by}
use Rattle.nvm_audit.proofs.Searching.{of_lists, first_in_front, found_behind}
use Rattle.nvm_audit.proofs.Standing.{all_at, below}
use Rattle.nvm_audit.proofs.job_fault.job_fault.Goals as goal

pub occurrences-requires : goal.occurrences-requires
occurrences-requires c = record {
  numbers =
      λ worker work place d by there.
      let shown = shown_by c.r.inside in
      let does = all_at (IsRecordableWork shown) shown.done c.r.invariant.done worker work by in
      let one = all_at (IsRecordableDone shown) work does.each place d there in
      let lt = below shown.jobs d.job one.job one.its in
      omega (arith, lt, c.len.ensures, c.r.inside.jobs.ok.0);
}

pub count_fault-requires : goal.count_fault-requires
count_fault-requires c =
    let few = c.r.invariant.few_jobs in
    let counted = c.in_ok-found.ensures in
    omega (arith, few, counted.long, c.len.ensures)

pub returns-in-Some : goal.returns-in-Some
returns-in-Some c =
    let long : c.len.result ≡ length c.r.inside.jobs.items = omega (arith, c.len.ensures, c.r.inside.jobs.ok.0) in
    let counted = subst (λ (x : RecordView). AreCounted (length x.jobs) x.done c.in_ok-found.found.items) c.r.view_is
    (subst (λ (n : ℕ). AreCounted n (shown_by c.r.inside).done c.in_ok-found.found.items) long c.in_ok-found.ensures) in
    let found = c.in-Some.ensures c.args.r.now counted in
    record {
      check = found.check;
      first =
          first_in_front (Passes c.args.r.now) (count_checks (length c.args.r.now.jobs)) (shape_checks (length c.args.r.now.jobs)) found.check
          found.first;
      is = found.is;
    }

pub shape_fault-requires-clause-once : goal.shape_fault-requires-clause-once
shape_fault-requires-clause-once c = λ number lt.
    let long : c.len.result ≡ length c.r.inside.jobs.items = omega (arith, c.len.ensures, c.r.inside.jobs.ok.0) in
    let counted = subst (λ (x : RecordView). AreCounted (length x.jobs) x.done c.in_ok-found.found.items) c.r.view_is
    (subst (λ (n : ℕ). AreCounted n (shown_by c.r.inside).done c.in_ok-found.found.items) long c.in_ok-found.ensures) in
    let all = c.in-None.ensures c.args.r.now counted in
    let here = of_lists (Passes c.args.r.now) (λ k. job_done k ∷ job_once k ∷ []) 0 (length c.args.r.now.jobs) all number (omega arith)
    (omega (arith, lt)) in
    let some = here.0 in
    let most = here.1.0 in
    omega (arith, some, most)

pub returns : goal.returns
returns c =
    let long : c.len.result ≡ length c.r.inside.jobs.items = omega (arith, c.len.ensures, c.r.inside.jobs.ok.0) in
    let counted = subst (λ (x : RecordView). AreCounted (length x.jobs) x.done c.in_ok-found.found.items) c.r.view_is
    (subst (λ (n : ℕ). AreCounted n (shown_by c.r.inside).done c.in_ok-found.found.items) long c.in_ok-found.ensures) in
    found_behind c.args.r.now (count_checks (length c.args.r.now.jobs)) (shape_checks (length c.args.r.now.jobs)) c.shape_fault.result
    (c.in-None.ensures c.args.r.now counted) c.shape_fault.ensures
