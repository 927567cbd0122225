use Rattle.std.proofs.Common.{◌≡◌, ℕ, ◌+◌, ◌<◌, List, length, slice_index_or, subst, below_more, arith, rules}
use Rattle.std.proofs.lemmas.List.{get_or_read}
use Rattle.nvm_plan.specs.declared.job.Job.{Job}
use Rattle.nvm_plan.specs.Fits.{FitsNamespace}
use Rattle.nvm_audit.specs.declared.version.Version.TheVariants.{Two}
use Rattle.nvm_audit.specs.Recordable.{HoldsBody}
use Rattle.nvm_calling.proofs.run.record_of.Goals as goal

-- What holds of each job below a place, and of the job there, holds below the next.
one_more : (P : Job → Type 0) (jobs : List Job) (place : ℕ) (job : Job) → place < length jobs → job ≡ slice_index_or jobs place job
    → P job → ((k : ℕ) (d : Job) → k < place → P (slice_index_or jobs k d))
    → (k : ℕ) (d : Job) → k < place + 1 → P (slice_index_or jobs k d)
one_more P jobs place job below is holds before k d lt =
    below_more (λ i. P (slice_index_or jobs i d)) place (λ i h. before i d h)
    (subst P (get_or_read jobs place job below is d) holds) k lt

pub loop-place-preserved : goal.loop-place-preserved
loop-place-preserved g c =
    let jobs = c.args.jobs.now in
    let job = c.index-jobs-place.result in
    let below : c.loop-place.place < length jobs = omega arith in
    one_more (λ (job : Job). FitsNamespace c.args.geometry job × HoldsBody Two job.body) jobs c.loop-place.place job below c.index-jobs-place.is
    (c.can_be_run.ensures.0 (search rules)) c.loop-place.invariant
