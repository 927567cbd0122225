use Rattle.std.proofs.Common.{refl, inr}
use Rattle.std.proofs.lemmas.Result.{err_from_is_err_and}
use Rattle.nvm_engine.specs.declared.fault.Fault.TheVariants as of_run
use Rattle.nvm_commands.proofs.running.told_of.Goals as goal

-- The objects want nothing but memory.
pub returns-in_err-of-clause-fault : goal.returns-in_err-of-clause-fault
returns-in_err-of-clause-fault g c =
    let p = err_from_is_err_and c.from_residual-in_err-of.result c.from_residual-in_err-of.ensures.1 in
    rw p.1 (of_run.NoMemory, inr (inr (inr refl)), p.2)
