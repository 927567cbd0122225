use Rattle.std.proofs.Common.{inl, inr, Result, Err, ap, ◌∙◌, subst, sym}
use Rattle.nvm_audit.specs.declared.audit_fault.AuditFault.{AuditFault}
use Rattle.nvm_audit.specs.declared.verdict.Verdict.{Verdict}
use Rattle.nvm_engine.specs.Judged.{IsJudgedAs}
use Rattle.nvm_engine.proofs.judging.judge_watched.Goals as goal

pub returns-in-Ok-clause-named : goal.returns-in-Ok-clause-named
returns-in-Ok-clause-named g c = λ first h. absurd (c.in-Ok.ensures.named first h)

pub returns-in_ok-unlawful-in-Err : goal.returns-in_ok-unlawful-in-Err
returns-in_ok-unlawful-in-Err g c =
    let it = c.in-Err in
    let told = c.in_ok-unlawful-in-Err.ensures.told in
    let known = c.in_ok-unlawful-in-Err.ensures.known in
    record {
      judged =
          subst (λ (answer : Result Verdict AuditFault). IsJudgedAs c.args.run.now answer) (sym told)
          (elim it.ensures.fault [ inl first ↦ first | inr none ↦ absurd (known none) ]);
      accepted = λ lawful. absurd (known (it.ensures.accepted lawful));
      named = λ first h.
          told ∙ ap Err (elim (it.ensures.named first h) [ inl same ↦ same | inr none ↦ absurd (known none) ]);
    }
