use Rattle.std.proofs.Common.{inr}
use Rattle.std.proofs.lemmas.Result.{IfErr-weaker, IfOk-weaker}
use Rattle.nvm_commands.proofs.files.read_as_record.Goals as goal

pub returns-clause-run : goal.returns-clause-run
returns-clause-run g c =
    IfOk-weaker c.record_in.result _ _ (λ run is. (c.in_ok-bytes.bytes, is)) c.record_in.ensures.run

pub returns-clause-fault : goal.returns-clause-fault
returns-clause-fault g c =
    IfErr-weaker c.record_in.result _ _ (λ failure is. inr (c.in_ok-bytes.bytes, is)) c.record_in.ensures.fault
