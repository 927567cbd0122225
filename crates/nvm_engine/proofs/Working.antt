-- Jobs that a worker does one after the other.
use Rattle.std.proofs.Common.{◌≡◌, ℕ, List, [], ◌∷◌, ◌++◌, refl, sym, ap, ◌∙◌, subst}
use Rattle.nvm_geometry.specs.Namespace.{Namespace}
use Rattle.nvm_plan.specs.declared.job.Job.{Job}
use Rattle.nvm_unit.specs.declared.views.PassView.{PassView}
use Rattle.nvm_audit.specs.RecordedJob.{RecordedJob}
use Rattle.nvm_engine.specs.DoneJobs.{HasDoneJob, HaveDone}
use Rattle.nvm_engine.specs.Inside.Working.{numbers_of}

-- One job more.
pub done_more : (ns : Namespace) (jobs : List Job) (work : List RecordedJob) (d : RecordedJob) (old between new : List PassView)
    → HaveDone ns jobs work old between → HasDoneJob ns jobs d between new → HaveDone ns jobs (work ++ d ∷ []) old new
done_more ns jobs [] d old between new same done =
    (new, subst (λ (views : List PassView). HasDoneJob ns jobs d views new) same done, refl)
done_more ns jobs (first ∷ work) d old between new have done = (have.0, have.1, done_more ns jobs work d have.0 between new have.2 done)

pub numbers_more : (work : List RecordedJob) (d : RecordedJob) → numbers_of (work ++ d ∷ []) ≡ numbers_of work ++ d.job ∷ []
numbers_more [] d = refl
numbers_more (first ∷ work) d = ap (λ (numbers : List ℕ). first.job ∷ numbers) (numbers_more work d)

pub work_more : (ns : Namespace) (jobs : List Job) (work reserved after : List RecordedJob) (d : RecordedJob) (old between new : List PassView)
    → reserved ≡ work → after ≡ reserved ++ d ∷ [] → HaveDone ns jobs work old between → HasDoneJob ns jobs d between new → HaveDone ns jobs after old new
work_more ns jobs work reserved after d old between new same is have done =
    subst (λ (w : List RecordedJob). HaveDone ns jobs w old new) (sym (is ∙ ap (λ (w : List RecordedJob). w ++ d ∷ []) same))
    (done_more ns jobs work d old between new have done)

pub drawn_more : (work reserved after : List RecordedJob) (d : RecordedJob) (n : ℕ) (drawn more : List ℕ) → reserved ≡ work → after ≡ reserved ++ d ∷ [] → d.job ≡ n
    → drawn ≡ numbers_of work → more ≡ drawn ++ n ∷ [] → more ≡ numbers_of after
drawn_more work reserved after d n drawn more same is job was next =
    next ∙ ap (λ (numbers : List ℕ). numbers ++ n ∷ []) was ∙ ap (λ (k : ℕ). numbers_of work ++ k ∷ []) (sym job)
    ∙ sym (numbers_more work d) ∙ sym (ap numbers_of (is ∙ ap (λ (w : List RecordedJob). w ++ d ∷ []) same))
