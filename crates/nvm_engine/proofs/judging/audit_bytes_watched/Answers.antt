use Rattle.std.proofs.Common.{◌≡◌, subst}
use Rattle.nvm_audit.specs.RecordChecks.{IsFirstFault}
use Rattle.nvm_audit.specs.RecordView.{RecordView}
use Rattle.nvm_engine.proofs.judging.audit_bytes_watched.Goals as goal

pub returns-clause-named : goal.returns-clause-named
returns-clause-named g c = λ r first file h.
    let read = c.in_ok-held.ensures.read in
    let same : r ≡ c.in_ok-held.held = cc in
    c.in_ok-judged.ensures.named first (subst (λ (v : RecordView). IsFirstFault v first) same h)
