-- The jobs of a load: their CIDs, that they are the jobs of their commands, and that each command is whole.
use Rattle.std.proofs.Common.{◌≡◌, ℕ, ◌+◌, List, [], ◌∷◌, ◌++◌, length, map, None, All, refl, sym, ap, subst, ◌∙◌, arith, length-append}
use Rattle.std.proofs.Math.Seq.{get_or-append_seam}
use Rattle.std.proofs.lemmas.Grind.{flat_map-append}
use Rattle.std.proofs.lemmas.List.{append-nil, length-map, map-append}
use Rattle.std.proofs.lemmas.List.FromFn.{length-range_with_len}
use Rattle.std.proofs.lemmas.List.Elements.{All-nil, All-append, All-head, All-tail}
use Rattle.std.specs.List.{flat_map, range_with_len}
use Rattle.nvm_record.specs.Entry.{IsWhole}
use Rattle.nvm_record.specs.declared.command.Command.{Command}
use Rattle.nvm_geometry.specs.Namespace.{Namespace}
use Rattle.nvm_plan.specs.Checks.{refusal_of}
use Rattle.nvm_plan.specs.Jobs.{IsPairing, commands_of}
use Rattle.nvm_plan.specs.Profile.{IsFusedPair}
use Rattle.nvm_plan.specs.Ready.{IsReady}
use Rattle.nvm_plan.specs.declared.job.Body.{Body}
use Rattle.nvm_plan.specs.declared.job.Body.TheVariants.{Single}
use Rattle.nvm_plan.specs.declared.job.Job.{Job}
use Rattle.nvm_generate.specs.Load.{IsJobOfLoad, AreJobsOfLoad}
use Rattle.nvm_generate.specs.declared.load.Load.{Load}
use Rattle.nvm_generate.proofs.Counting.{range_join}

-- one job more
pub cids_more : (jobs : List Body) (job : Body) (before : ℕ) → map (λ (c : Command). c.cid) (flat_map commands_of jobs) ≡ range_with_len 1 before
    → map (λ (c : Command). c.cid) (commands_of job) ≡ range_with_len (before + 1) (length (commands_of job))
    → map (λ (c : Command). c.cid) (flat_map commands_of (jobs ++ job ∷ [])) ≡ range_with_len 1 (before + length (commands_of job))
cids_more jobs job before so_far here =
    let cid : Command → ℕ = λ c. c.cid in
    let all = flat_map-append commands_of jobs (job ∷ []) ∙ ap (λ l. flat_map commands_of jobs ++ l) (append-nil (commands_of job)) in
    ap (map cid) all
    ∙ map-append cid (flat_map commands_of jobs) (commands_of job)
    ∙ ap (λ l. l ++ map cid (commands_of job)) so_far
    ∙ ap (λ l. range_with_len 1 before ++ l) here
    ∙ sym (range_join 1 before (length (commands_of job)) (before + 1) (omega arith))

-- A job that no check refuses is one that is ready.
abbrev pub ReadyUnrefused : Type 0
ReadyUnrefused = (ns : Namespace) (job : Job) → refusal_of ns job ≡ None → IsReady ns job

alone : ReadyUnrefused → (load : Load) (host : ℕ) (c d : Command) → IsJobOfLoad load host (Single c) → IsFusedPair c d → ⊥
alone ready load host c d job fused =
    let normal = (ready load.geometry (record { host = host; body = Single c }) job.served).fuse in cc (normal, fused.first)

middle : {X : Type 0} (P : X → Type 0) (before : List X) (x : X) (after : List X) → All P (before ++ x ∷ after) → P x
middle P before x after all =
    subst P (get_or-append_seam before x after x) (all (length before) x (omega (arith, length-append before (x ∷ after))))

pub paired : ReadyUnrefused → (load : Load) (host : ℕ) (jobs : List Body) → All (IsJobOfLoad load host) jobs → IsPairing (flat_map commands_of jobs) jobs
paired ready load host jobs all = record {
  whole = refl;
  paired = λ k d lt. (all k d lt).pair;
  alone = λ before c d after e fused.
      alone ready load host c d (middle (IsJobOfLoad load host) before (Single c) (Single d ∷ after) (subst (All (IsJobOfLoad load host)) e all)) fused;
}

-- each command of each job is as the jobs' are
pub all_whole : (load : Load) (host : ℕ) (jobs : List Body) → All (IsJobOfLoad load host) jobs
    → All (IsWhole load.geometry.block_size) (flat_map commands_of jobs)
all_whole load host [] all = All-nil (IsWhole load.geometry.block_size)
all_whole load host (job ∷ jobs) all =
    let here : IsJobOfLoad load host job = All-head (IsJobOfLoad load host) job jobs all in
    let whole : All (IsWhole load.geometry.block_size) (commands_of job) = λ k d lt. (here.commands k d lt).whole in
    All-append (IsWhole load.geometry.block_size) (commands_of job) (flat_map commands_of jobs) whole (all_whole load host jobs (All-tail (IsJobOfLoad load host) job jobs all))

-- there are as many commands as the load says
pub as_many : (load : Load) (host : ℕ) (jobs : List Body) → AreJobsOfLoad load host jobs → length (flat_map commands_of jobs) ≡ load.commands
as_many load host jobs is =
    sym (length-map (flat_map commands_of jobs) (λ (c : Command). c.cid)) ∙ ap length is.cids ∙ length-range_with_len 1 load.commands
