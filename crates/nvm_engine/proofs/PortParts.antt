-- What a port did, part by part, as each of its passes did it, and as the record shows it.
use Rattle.std.proofs.Common.{◌≡◌, ℕ, zero, suc, List, [], ◌∷◌, ◌++◌, set, subst, refl, sym, ap, ◌∙◌, inl, inr}
use Rattle.std.specs.List.{AllZip}
use mathlib.Core.Logic.{dite}
use mathlib.Core.Option.{some-injective}
use native.Mathlib.Decide.{ℕ_discrete}
use Rattle.nvm_record.specs.Lists.{IsAt}
use Rattle.nvm_geometry.specs.Namespace.{Namespace}
use Rattle.nvm_plan.specs.declared.job.Job.{Job}
use Rattle.nvm_plan.specs.declared.part.Part.{Part}
use Rattle.nvm_unit.specs.declared.views.PassView.{PassView}
use Rattle.nvm_space.specs.Trace.{PartDone, DoesPart, DoesParts}
use Rattle.nvm_space.specs.Visits.{BecomesAt}
use Rattle.nvm_audit.specs.RecordedJob.{RecordedJob}
use Rattle.nvm_audit.specs.RecordedPart.{RecordedPart, parts_left, parts_of_work}
use Rattle.nvm_engine.specs.DoneJobs.{HasDoneJob, HaveDone}
use Rattle.nvm_engine.specs.Inside.Shows.{Shows}
use Rattle.nvm_engine.proofs.InLists.{none_there, same_there, replaced, kept_elsewhere}
use Rattle.nvm_engine.proofs.OnePass.{TakesIts, TakesAll}
use Rattle.nvm_engine.proofs.PassPlaces.{AreInTheirUnits, places_stay}

-- Some parts were done, and then others: so all of them were.
one_then_others : (first rest : List PartDone) (old between new : List PassView) → DoesParts (λ unit. unit) first old between
    → DoesParts (λ unit. unit) rest between new → DoesParts (λ unit. unit) (first ++ rest) old new
one_then_others [] rest old between new does then_ = subst (λ (vs : List PassView). DoesParts (λ unit. unit) rest vs new) does then_
one_then_others (did ∷ first) rest old between new does then_ =
    (does.0, does.1, one_then_others first rest does.0 between new does.2 then_)

-- What is so of each two of two lists, and of each two of two others, is so of each two of them joined.
zip_both : {A B : Type 0} (R : A → B → Type 0) (xs ys : List A) (us vs : List B) → AllZip R xs us → AllZip R ys vs
    → AllZip R (xs ++ ys) (us ++ vs)
zip_both R [] ys [] vs first rest = rest
zip_both R [] ys (u ∷ us) vs first rest = absurd first
zip_both R (x ∷ xs) ys [] vs first rest = absurd first
zip_both R (x ∷ xs) ys (u ∷ us) vs first rest = (first.0, zip_both R xs ys us vs first.1 rest)

-- The recorded parts show what was done between these views.
pub record IsShown (ns : Namespace) (jobs : List Job) (xs : List RecordedPart) (old new : List PassView) : Type 0 where
  pub acts : List PartDone
  pub does : DoesParts (λ unit. unit) acts old new
  pub shows : AllZip (Shows ns jobs) xs acts

-- What each done job shows of its parts.
abbrev pub JobsAreShown : Namespace → List Job → Type 0
JobsAreShown ns jobs =
    (worker : ℕ) (d : RecordedJob) (old new : List PassView) → HasDoneJob ns jobs d old new → AreInTheirUnits ns old
    → IsShown ns jobs (parts_left worker d d.parts) old new

-- What a worker's done jobs show of all its parts.
pub work_shown : (ns : Namespace) (jobs : List Job) → JobsAreShown ns jobs → (worker : ℕ) (work : List RecordedJob)
    (old new : List PassView) → HaveDone ns jobs work old new → AreInTheirUnits ns old
    → IsShown ns jobs (parts_of_work worker work) old new
work_shown ns jobs shown worker [] old new done places = record { acts = []; does = done; shows = tt }
work_shown ns jobs shown worker (d ∷ work) old new done places =
    let first = shown worker d old done.0 done.1 places in
    let rest = work_shown ns jobs shown worker work done.0 new done.2 (places_stay ns jobs d old done.0 done.1 places) in
    record {
      acts = first.acts ++ rest.acts;
      does = one_then_others first.acts rest.acts old done.0 new first.does rest.does;
      shows = zip_both (Shows ns jobs) (parts_left worker d d.parts) (parts_of_work worker work) first.acts rest.acts
          first.shows rest.shows;
    }

-- Each of a worker's jobs was done between some views.
pub job_was_done : (ns : Namespace) (jobs : List Job) (work : List RecordedJob) (old new : List PassView)
    → HaveDone ns jobs work old new → (i : ℕ) (d : RecordedJob) → IsAt work i d
    → (before after : List PassView) × HasDoneJob ns jobs d before after
job_was_done ns jobs [] old new done i d at = absurd (none_there i d at)
job_was_done ns jobs (e ∷ work) old new done zero d at =
    (old, done.0, subst (λ (x : RecordedJob). HasDoneJob ns jobs x old done.0) (some-injective e d at) done.1)
job_was_done ns jobs (e ∷ work) old new done (suc i) d at = job_was_done ns jobs work done.0 new done.2 i d at

-- One part is a step of its unit's pass, and leaves the others.
step_of_pass : (ns : Namespace) (jobs : List Job) (unit : ℕ) (x : RecordedPart) (did : PartDone) (old new : List PassView)
    (p : PassView) → Shows ns jobs x did → BecomesAt did.reply.part.unit (DoesPart did) old new → IsAt old unit p
    → (q : PassView) × IsAt new unit q × TakesIts ns jobs unit x p q
step_of_pass ns jobs unit x did old new p shows becomes at =
    let there = did.reply.part.unit in
    let same_unit : there ≡ x.part.unit = ap (λ (y : Part). y.unit) shows.part in
    dite (ℕ_discrete there unit)
    (λ is.
    let was : becomes.before ≡ p =
    same_there old unit becomes.before p (subst (λ (n : ℕ). IsAt old n becomes.before) is becomes.was) at in
    let does : DoesPart did p becomes.after = subst (λ (v : PassView). DoesPart did v becomes.after) was becomes.so in (
      becomes.after,
      subst (λ (vs : List PassView). IsAt vs unit becomes.after) (sym becomes.others)
          (subst (λ (n : ℕ). IsAt (set old there becomes.after) n becomes.after) is
          (replaced old there becomes.after becomes.before becomes.was)),
      inl (sym same_unit ∙ is, record { did = did; shows = shows; does = does }),
    ))
    (λ not. (
      p,
      subst (λ (vs : List PassView). IsAt vs unit p) (sym becomes.others)
          (kept_elsewhere old there unit becomes.after p not at),
      inr ((λ is. not (same_unit ∙ is)), refl),
    ))

-- The pass of each unit did all the parts of the unit.
pub takes_all : (ns : Namespace) (jobs : List Job) (unit : ℕ) (xs : List RecordedPart) (acts : List PartDone)
    (old new : List PassView) (p q : PassView) → AllZip (Shows ns jobs) xs acts → DoesParts (λ unit. unit) acts old new → IsAt old unit p
    → IsAt new unit q
    → TakesAll ns jobs unit xs p q
takes_all ns jobs unit [] [] old new p q shows does at now =
    same_there old unit q p (subst (λ (vs : List PassView). IsAt vs unit q) does now) at
takes_all ns jobs unit [] (did ∷ acts) old new p q shows does at now = absurd shows
takes_all ns jobs unit (x ∷ xs) [] old new p q shows does at now = absurd shows
takes_all ns jobs unit (x ∷ xs) (did ∷ acts) old new p q shows does at now =
    let step = step_of_pass ns jobs unit x did old does.0 p shows.0 does.1 at in
    (step.0, step.2, takes_all ns jobs unit xs acts does.0 new step.0 q shows.1 does.2 step.1 now)
