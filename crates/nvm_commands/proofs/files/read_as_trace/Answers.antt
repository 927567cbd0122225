use Rattle.std.proofs.Common.{inr}
use Rattle.std.proofs.lemmas.Result.{IfErr-weaker, IfOk-weaker}
use Rattle.nvm_commands.proofs.files.read_as_trace.Goals as goal

pub returns-clause-trace : goal.returns-clause-trace
returns-clause-trace g c =
    IfOk-weaker c.trace_in.result _ _ (λ trace is. (c.in_ok-bytes.bytes, is)) c.trace_in.ensures.trace

pub returns-clause-fault : goal.returns-clause-fault
returns-clause-fault g c =
    IfErr-weaker c.trace_in.result _ _ (λ failure is. inr (c.in_ok-bytes.bytes, is)) c.trace_in.ensures.fault
