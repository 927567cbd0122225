use Rattle.std.proofs.Common.{◌≡◌, ◌⊎◌, ℕ, List, subst}
use Rattle.std.proofs.lemmas.Result.{err_from_is_err_and}
use Rattle.nvm_commands.specs.Fault.{IsFaultOfTraceAt}
use Rattle.nvm_commands.specs.Files.{IsReadFault}
use Rattle.nvm_commands.proofs.certifying.certified.Goals as goal

pub returns-in_err-trace-clause-fault : goal.returns-in_err-trace-clause-fault
returns-in_err-trace-clause-fault g c =
    let p = err_from_is_err_and c.from_residual.result c.from_residual.ensures.1 in
    let fault = c.in_err-trace.field-0.0.fault in
    rw (p.1, p.2) (subst (λ (bytes : List ℕ). IsReadFault bytes fault ⊎ IsFaultOfTraceAt bytes fault) c.as_str.ensures.value c.in_err-trace.ensures.fault)
