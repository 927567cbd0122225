use Rattle.std.proofs.Common.{◌≡◌, ◌∙◌, ℕ, ◌+◌, ◌++◌, ◌∷◌, [], List, length, map, ap, sym, subst}
use Rattle.std.proofs.lemmas.List.{length_push}
use Rattle.nvm_record.specs.Lists.{IsAt}
use Rattle.nvm_plan.specs.Fits.{FitsNamespace}
use Rattle.nvm_plan.specs.declared.job.Job.{Job}
use Rattle.nvm_audit.specs.Recordable.{HoldsBody}
use Rattle.nvm_audit.specs.declared.version.Version.TheVariants.{Two}
use Rattle.nvm_c.specs.Recorded.{IsSomebodys}
use Rattle.nvm_c.proofs.Places.{all_from_at, each_none, each_push}
use Rattle.nvm_c.proofs.gathering.jobs_in_order.Goals as goal

pub loop-number-init : goal.loop-number-init
loop-number-init c =
    let own = map (λ own'. own'.items) c.args.jobs.now.items in let did = map (λ did'. did'.items) c.args.done.now.items in
    let none : c.in_ok-ordered.ordered.items ≡ [] = c.in_ok-ordered.ensures.items in
    record {
      count = ap length none;
      each = subst (λ (xs : List Job). (k : ℕ) (job : Job) → IsAt xs k job → IsSomebodys own did k job) (sym none) (each_none (IsSomebodys own did));
      fit = subst (λ (xs : List Job). (k : ℕ) (job : Job) → IsAt xs k job → FitsNamespace c.args.geometry job) (sym none) (each_none (λ k. FitsNamespace c.args.geometry));
      known = subst (λ (xs : List Job). (k : ℕ) (job : Job) → IsAt xs k job → HoldsBody Two job.body) (sym none) (each_none (λ k job. HoldsBody Two job.body));
    }

pub loop-number-preserved : goal.loop-number-preserved
loop-number-preserved c =
    let own = map (λ own'. own'.items) c.args.jobs.now.items in let did = map (λ did'. did'.items) c.args.done.now.items in
    let inv = c.loop-number.invariant in let old = c.loop-number.ordered.items in let copy = c.in_ok-copy.copy in
    let same : c.in-Some.job.now ≡ copy = sym c.in_ok-copy.ensures.cases in
    let longer : c.push.new.self.items ≡ old ++ copy ∷ [] = c.in_ok-push.ensures.items in
    let its = subst (IsSomebodys own did (length old)) same (subst (λ (n : ℕ). IsSomebodys own did n c.in-Some.job.now) (sym inv.count) c.in-Some.ensures.its) in
    let fits = subst (FitsNamespace c.args.geometry) same c.in-Some.ensures.fits in
    let known = subst (λ (job : Job). HoldsBody Two job.body) same c.in-Some.ensures.known in
    record {
      count = ap length longer ∙ length_push old copy ∙ ap (λ (n : ℕ). n + 1) inv.count;
      each = subst (λ (xs : List Job). (k : ℕ) (job : Job) → IsAt xs k job → IsSomebodys own did k job) (sym longer) (each_push (IsSomebodys own did) old copy inv.each its);
      fit = subst (λ (xs : List Job). (k : ℕ) (job : Job) → IsAt xs k job → FitsNamespace c.args.geometry job) (sym longer)
          (each_push (λ k. FitsNamespace c.args.geometry) old copy inv.fit fits);
      known = subst (λ (xs : List Job). (k : ℕ) (job : Job) → IsAt xs k job → HoldsBody Two job.body) (sym longer)
          (each_push (λ k job. HoldsBody Two job.body) old copy inv.known known);
    }

pub returns-clause-fit : goal.returns-clause-fit
returns-clause-fit c = all_from_at (FitsNamespace c.args.geometry) c.loop-number.ordered.items c.loop-number.invariant.fit

pub returns-clause-known : goal.returns-clause-known
returns-clause-known c = all_from_at (λ job. HoldsBody Two job.body) c.loop-number.ordered.items c.loop-number.invariant.known
