use Rattle.std.proofs.Common.{◌≡◌, length, get_or, refl, arith}
use Rattle.std.proofs.lemmas.Result.{IfOk-weaker}
use Rattle.nvm_plan.specs.Jobs.{commands_of}
use Rattle.nvm_plan.specs.declared.job.Body.{Body}
use Rattle.nvm_plan.specs.declared.job.Body.TheVariants.{Single, Pair}
use Rattle.nvm_generate.specs.Wanted.{IsWanted}
use Rattle.nvm_generate.specs.declared.load.Mix.{Mix}
use Rattle.nvm_calling.proofs.generate.load_without_pairs.Goals as goal

one_command : (mix : Mix) (job : Body) → mix.pair ≡ 0 → IsWanted mix job → length (commands_of job) ≡ 1
one_command mix (Single c) none wanted = refl
one_command mix (Pair c d) none wanted = absurd (omega arith)

mix : Mix
mix = record { write = 45; read = 45; compare = 5; pair = 0; zeroes = 3; uncorrectable = 0; deallocate = 2 }

pub returns : goal.returns
unfolding mix
returns c = IfOk-weaker c.jobs_of_load.result _ _ (λ jobs load k d lt. one_command mix (get_or jobs.items k d) refl (load.jobs k d lt).wanted) c.jobs_of_load.ensures
