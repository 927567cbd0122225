-- The done jobs of a lawful record, in the order of its jobs.
use Rattle.std.proofs.Common.{◌≡◌, ℕ, suc, ◌+◌, ◌<◌, List, [], ◌∷◌, length, refl, subst, arith}
use Rattle.nvm_plan.specs.declared.job.Job.{Job}
use Rattle.nvm_audit.specs.LawfulRecord.{IsLawfulRecord}
use Rattle.nvm_audit.specs.RecordedJob.{RecordedJob}
use Rattle.nvm_audit.specs.RecordView.{RecordView}
use Rattle.nvm_audit.specs.DoneJobs.{IsDoneJob, AreDone}
use Rattle.nvm_audit.proofs.LawfulDone.{done_once, each_done}

module _ (done : List (List RecordedJob)) where
  -- Where each number has a done job, the jobs were done.
  pub done_some : (number : ℕ) (jobs : List Job) → ((k : ℕ) → k < length jobs → (d : RecordedJob) × IsDoneJob done (number + k) d)
      → (its : List RecordedJob) × AreDone done number jobs its
  done_some number [] each = ([], tt)
  done_some number (job ∷ jobs) each =
      let zeroth : number + 0 ≡ number = omega arith in
      let (d, is) = each 0 (omega arith) in
      let (its, were) =
      done_some (number + 1) jobs
      (λ k lt.
      let next : number + suc k ≡ number + 1 + k = omega arith in
      let (e, more) = each (suc k) (omega (arith, lt)) in
      (e, subst (λ (n : ℕ). IsDoneJob done n e) next more)) in
      (d ∷ its, (subst (λ (n : ℕ). IsDoneJob done n d) zeroth is, were))

  -- Where each number has one done job, the jobs were done in one way.
  module _ (same : (number : ℕ) (d e : RecordedJob) → IsDoneJob done number d → IsDoneJob done number e → d ≡ e) where
    pub done_alone : (number : ℕ) (jobs : List Job) (its other : List RecordedJob) → AreDone done number jobs its → AreDone done number jobs other
        → its ≡ other
    done_alone number [] [] [] a b = refl
    done_alone number [] [] (y ∷ ys) a b = absurd b
    done_alone number [] (x ∷ xs) other a b = absurd a
    done_alone number (job ∷ jobs) [] other a b = absurd a
    done_alone number (job ∷ jobs) (x ∷ xs) [] a b = absurd b
    done_alone number (job ∷ jobs) (x ∷ xs) (y ∷ ys) a b =
        let first : x ≡ y = same number x y a.0 b.0 in
        let rest : xs ≡ ys = done_alone (number + 1) jobs xs ys a.1 b.1 in
        cc

module _ (r : RecordView) (lawful : IsLawfulRecord r) where
  pub all_done : (its : List RecordedJob) × AreDone r.done 0 r.jobs its
  all_done =
      done_some r.done 0 r.jobs
      (λ k lt.
      let same : k ≡ 0 + k = omega arith in
      let (d, its) = each_done r lawful k lt in
      (d, subst (λ (n : ℕ). IsDoneJob r.done n d) same its))

  pub all_done_once : (its other : List RecordedJob) → AreDone r.done 0 r.jobs its → AreDone r.done 0 r.jobs other → its ≡ other
  all_done_once its other a b = done_alone r.done (done_once r lawful) 0 r.jobs its other a b
