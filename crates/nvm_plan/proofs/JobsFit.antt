-- Jobs of whole commands fit.
use Rattle.std.proofs.Common.{inl, ℕ, ◌≤◌, List, [], ◌∷◌, length, arith}
use Rattle.std.specs.List.{All}
use Rattle.std.proofs.lemmas.List.Elements.{All-head, All-tail}
use Rattle.nvm_record.specs.Entry.{IsWhole}
use Rattle.nvm_record.specs.declared.command.Command.{Command}
use Rattle.nvm_geometry.specs.Namespace.{Namespace}
use Rattle.nvm_plan.specs.declared.job.Body.{Body}
use Rattle.nvm_plan.specs.declared.job.Body.TheVariants.{Single, Pair}
use Rattle.nvm_plan.specs.declared.job.Job.{Job}
use Rattle.nvm_plan.specs.Fits.{most_hosts, IsWholeBody, FitsNamespace}
use Rattle.nvm_plan.specs.Jobs.{commands_of, IsBody, IsJobList}
use Rattle.nvm_plan.proofs.JobPlaces.{all_of_hosts, all_whole}

whole_body : (size : ℕ) (body : Body) → All (IsWhole size) (commands_of body) → IsBody body → IsWholeBody size body
whole_body size (Single c) whole paired = inl (All-head (IsWhole size) c [] whole)
whole_body size (Pair c d) whole paired =
    (All-head (IsWhole size) c (d ∷ []) whole, All-head (IsWhole size) d [] (All-tail (IsWhole size) c (d ∷ []) whole), paired)

pub all_fit : (ns : Namespace) (hosts : List (List Command)) (jobs : List Job) → length hosts ≤ most_hosts
    → All (λ commands. All (IsWhole ns.block_size) commands) hosts → IsJobList hosts jobs → All (FitsNamespace ns) jobs
all_fit ns hosts jobs few whole list place d inside =
    let known = list.known place d inside in
    let made = all_of_hosts hosts jobs list place d inside in
    record {
      host = known.0;
      host_end = omega (arith, known.1, few);
      body = whole_body ns.block_size _ (all_whole ns.block_size hosts jobs whole list place d inside) made.body;
    }
