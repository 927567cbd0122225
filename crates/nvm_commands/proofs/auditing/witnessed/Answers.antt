use Rattle.std.proofs.Common.{inl, inr}
use Rattle.std.proofs.lemmas.Result.{err_from_is_err_and, IfErr-weaker}
use Rattle.nvm_commands.proofs.Held.{judged_fault}
use Rattle.nvm_commands.proofs.auditing.witnessed.Goals as goal

-- The trace's fault is returned as it is.
pub returns-in_err-seen-clause-fault : goal.returns-in_err-seen-clause-fault
returns-in_err-seen-clause-fault g c =
    let p = err_from_is_err_and c.from_residual-in_err-seen.result c.from_residual-in_err-seen.ensures.1 in
    rw (p.1, p.2) (inr (inl c.in_err-seen.ensures.fault))

-- And so is that of reading the other file.
pub returns-in_err-held-clause-fault : goal.returns-in_err-held-clause-fault
returns-in_err-held-clause-fault g c =
    let p = err_from_is_err_and c.from_residual-in_err-held.result c.from_residual-in_err-held.ensures.1 in
    rw (p.1, p.2) (inr (inr (inl c.in_err-held.ensures)))

-- And what is first wrong in it.
pub returns-clause-fault : goal.returns-clause-fault
returns-clause-fault g c =
    IfErr-weaker c.witnessed_by-witnessed.result _ _
    (λ failure is. judged_fault c.args.trace.now c.args.record.now c.in_ok-held.held failure.fault is)
    c.witnessed_by-witnessed.ensures.fault
