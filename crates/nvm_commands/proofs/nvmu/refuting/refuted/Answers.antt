use Rattle.std.proofs.Common.{inr}
use Rattle.std.proofs.lemmas.Result.{IfErr-weaker}
use Rattle.nvm_commands.proofs.nvmu.refuting.refuted.Goals as goal

-- The fault is that of the bytes that were read.
pub returns-clause-fault : goal.returns-clause-fault
returns-clause-fault g c = IfErr-weaker c.refuted_of.result _ _ (λ failure first. inr (_, _, first)) c.refuted_of.ensures.fault
