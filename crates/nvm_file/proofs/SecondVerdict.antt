-- The second version of a record has the same verdict and the same first fault: the version isn't looked at.
use Rattle.std.proofs.Common.{◌≡◌, ◌↔◌, ℕ, ◌+◌, List, [], ◌∷◌, ◌++◌, length, map, inl, inr, refl, sym, ap, subst}
use Rattle.nvm_store.specs.HistoryEntry.{HistoryEntry}
use Rattle.nvm_audit.specs.declared.audit_fault.AuditFault.{AuditFault}
use Rattle.nvm_audit.specs.declared.verdict.Verdict.{Verdict}
use Rattle.nvm_audit.specs.FirstFailed.{IsFirstFailed}
use Rattle.nvm_audit.specs.RecordChecks.{IsFirstFault, Passes, RecordCheck, checks_of_units, count_checks, in_unit, job_done, job_once, record_checks, shape_checks, shape_right}
use Rattle.nvm_audit.specs.RecordView.{RecordView}
use Rattle.nvm_audit.specs.UnitChecks.{unit_checks}
use Rattle.nvm_audit.specs.UnitView.{view_of_unit}
use Rattle.nvm_audit.specs.Verdict.{IsVerdict}
use Rattle.nvm_file.specs.Upgrade.{second_version}

pub same_verdict : (r : RecordView) (v : Verdict) → IsVerdict (second_version r) v ↔ IsVerdict r v
same_verdict r v = (
  (λ h. record { jobs = h.jobs; units = h.units; changes = h.changes; refused = h.refused }),
  (λ h. record { jobs = h.jobs; units = h.units; changes = h.changes; refused = h.refused }),
)

same_checks_of_units : (r : RecordView) (unit : ℕ) (histories : List (List HistoryEntry))
    → checks_of_units (second_version r) unit histories ≡ checks_of_units r unit histories
same_checks_of_units r unit [] = refl
same_checks_of_units r unit (history ∷ rest) =
    ap (λ (l : List RecordCheck). map (in_unit (view_of_unit r unit history)) (unit_checks (view_of_unit r unit history)) ++ l)
    (same_checks_of_units r (unit + 1) rest)

same_checks : (r : RecordView) → record_checks (second_version r) ≡ record_checks r
same_checks r =
    ap (λ (l : List RecordCheck). count_checks (length r.jobs) ++ shape_checks (length r.jobs) ++ l) (same_checks_of_units r 0 r.units)

-- A check passes in the one exactly where it passes in the other.
passes : (r : RecordView) (check : RecordCheck) → Passes (second_version r) check ↔ Passes r check
passes r (job_done number) = ((λ h. h), (λ h. h))
passes r (job_once number) = ((λ h. h), (λ h. h))
passes r (shape_right number) = ((λ h. h), (λ h. h))
passes r (in_unit u check) = ((λ h. h), (λ h. h))

-- So does the first that doesn't, among the same checks.
first_failed : (P Q : RecordCheck → Type 0) → ((c : RecordCheck) → P c ↔ Q c) → (checks : List RecordCheck) (check : RecordCheck)
    → IsFirstFailed P checks check → IsFirstFailed Q checks check
first_failed P Q same [] check first = absurd first
first_failed P Q same (c ∷ cs) check (inl here) = inl (here.0, λ q. here.1 ((same c).1 q))
first_failed P Q same (c ∷ cs) check (inr later) = inr ((same c).0 later.0, first_failed P Q same cs check later.1)

second_fault : (r : RecordView) (fault : AuditFault) → IsFirstFault (second_version r) fault → IsFirstFault r fault
second_fault r fault h =
    record {
      check = h.check;
      first = subst (λ (l : List RecordCheck). IsFirstFailed (Passes r) l h.check) (same_checks r)
          (first_failed (Passes (second_version r)) (Passes r) (passes r) (record_checks (second_version r)) h.check h.first);
      is = h.is;
    }

old_fault : (r : RecordView) (fault : AuditFault) → IsFirstFault r fault → IsFirstFault (second_version r) fault
old_fault r fault h =
    record {
      check = h.check;
      first = subst (λ (l : List RecordCheck). IsFirstFailed (Passes (second_version r)) l h.check) (sym (same_checks r))
          (first_failed (Passes r) (Passes (second_version r)) (λ c. ((passes r c).1, (passes r c).0)) (record_checks r) h.check h.first);
      is = h.is;
    }

pub same_fault : (r : RecordView) (fault : AuditFault) → IsFirstFault (second_version r) fault ↔ IsFirstFault r fault
same_fault r fault = (second_fault r fault, old_fault r fault)
