-- What a record shows of a job that was done.
use Rattle.std.proofs.Common.{◌≡◌, ℕ, true, List, [], ◌∷◌, map, Option, Some, None, IsSome, IfSome, is_some, subst, refl, sym, ap, ◌∙◌}
use Rattle.nvm_record.specs.declared.status.Statuses.{Statuses}
use Rattle.nvm_record.specs.declared.status.Statuses.TheVariants.{One, Two}
use Rattle.nvm_record.specs.Lists.{IsAt}
use Rattle.nvm_record.specs.Status.{successful_completion}
use Rattle.nvm_geometry.specs.Large.{region_of}
use Rattle.nvm_geometry.specs.Namespace.{Namespace}
use Rattle.nvm_plan.specs.Completions.{body_completions}
use Rattle.nvm_plan.specs.declared.job.Body.{Body}
use Rattle.nvm_plan.specs.declared.job.Body.TheVariants.{Single, Pair}
use Rattle.nvm_plan.specs.declared.job.Job.{Job}
use Rattle.nvm_plan.specs.Outcome.{IsOutcome}
use Rattle.nvm_plan.specs.Reply.{Reply}
use Rattle.nvm_plan.specs.Shape.{IsForEach}
use Rattle.nvm_unit.specs.declared.views.PassView.{PassView}
use Rattle.nvm_space.specs.declared.job_done.JobDone.{JobDone}
use Rattle.nvm_space.specs.Trace.{PartDone, DoesPart, DoesParts, DoesJob}
use Rattle.nvm_space.specs.Visits.{BecomesAt}
use Rattle.nvm_audit.specs.RecordedJob.{RecordedJob}
use Rattle.nvm_engine.specs.DoneJobs.{HasDoneJob}
use Rattle.nvm_engine.specs.Inside.Working.{statuses_in, payload_in, recorded_job}

-- The completions show the statuses and the data that they were made of.
shown : (host : ℕ) (body : Body) (told : Statuses) (read : Option (List ℕ)) → IsForEach body told → (IsSome read → told ≡ One successful_completion)
    → (statuses_in (body_completions host body told read) ≡ told) × (payload_in (body_completions host body told read) ≡ read)
shown host (Single c) (One s) read each payload_law = (refl, refl)
shown host (Single c) (Two s t) read each payload_law = absurd each
shown host (Pair c d) (One s) read each payload_law = absurd each
shown host (Pair c d) (Two s t) None each payload_law = (refl, refl)
shown host (Pair c d) (Two s t) (Some bytes) each payload_law = let no : Two s t ≡ One successful_completion = payload_law refl in absurd (cc no)

-- What is so where there is something is so, where there is.
pub so_of_some : {A : Type 0} (P : Type 0) (given : Option A) → is_some given ≡ true → IfSome given (λ it. P) → P
so_of_some P None some so = absurd (cc some)
so_of_some P (Some it) some so = so

-- Where each unit is a region, the pass of a part's region is that of its unit.
by_units : (region : ℕ → ℕ) → ((unit : ℕ) → region unit ≡ unit) → (parts : List PartDone) (old new : List PassView) → DoesParts region parts old new
    → DoesParts (λ unit. unit) parts old new
by_units region same [] old new does = does
by_units region same (did ∷ rest) old new does = (
  does.0,
  subst (λ (k : ℕ). BecomesAt k (DoesPart did) old does.0) (same did.reply.part.unit) does.1,
  by_units region same rest does.0 new does.2,
)

pub done_job : (ns : Namespace) (jobs : List Job) (number : ℕ) (job : Job) (done : JobDone) (d : RecordedJob) (old new : List PassView)
    → ((replies : List Reply) (told : Statuses) (read : Option (List ℕ)) → IsOutcome ns job replies told read → IsForEach job.body told)
    → ((replies : List Reply) (told : Statuses) (read : Option (List ℕ)) → IsOutcome ns job replies told read → IsSome read → told ≡ One successful_completion)
    → ((unit : ℕ) → region_of ns unit ≡ unit) → IsAt jobs number job → d ≡ recorded_job number done → DoesJob ns true number job old new done → HasDoneJob ns jobs d old new
done_job ns jobs number job done d old new for_each payload_law same at is does =
    let replies : List Reply = map (λ did. did.reply) does.parts in
    let back = shown job.host job.body does.told does.read (for_each replies does.told does.read does.outcome) (payload_law replies does.told does.read does.outcome) in
    let statuses : does.told ≡ statuses_in done.completions = sym (ap statuses_in does.completions ∙ back.0) in
    let payload : does.read ≡ payload_in done.completions = sym (ap payload_in does.completions ∙ back.1) in
    subst (λ (x : RecordedJob). HasDoneJob ns jobs x old new) (sym is) (record {
      job = job;
      its = at;
      parts = does.parts;
      does = by_units (region_of ns) same does.parts old new does.does;
      each = does.each;
      outcome = subst (λ (read : Option (List ℕ)). IsOutcome ns job replies (statuses_in done.completions) read) payload
          (subst (λ (told : Statuses). IsOutcome ns job replies told does.read) statuses does.outcome);
      listed = does.listed;
    })
