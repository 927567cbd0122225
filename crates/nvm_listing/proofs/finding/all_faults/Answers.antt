use Rattle.std.proofs.Common.{List, inl, inr, rules, subst}
use Rattle.nvm_audit.specs.declared.audit_fault.AuditFault.{AuditFault}
use Rattle.nvm_listing.specs.AllFaults.{IsFirstOf}
use Rattle.nvm_listing.proofs.finding.all_faults.Goals as goal

pub returns-in_ok-faults_after-in-Err-clause-first : goal.returns-in_ok-faults_after-in-Err-clause-first
returns-in_ok-faults_after-in-Err-clause-first g c = λ first found.
    let all : List AuditFault = c.in_ok-faults_after-in-Err.field-0.items in
    elim c.in-Err.ensures.fault [
      | inl its ↦
          let same = c.one_check_is_the_first_fault.ensures.one c.args.record.now c.in-Err.first first its found in
          subst (λ (fault : AuditFault). IsFirstOf fault all) same c.in_ok-faults_after-in-Err.ensures.first
      | inr none ↦ absurd (search rules)
    ]
