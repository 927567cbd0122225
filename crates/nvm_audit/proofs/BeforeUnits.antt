-- A fault that names a unit is found only where nothing is wrong with the jobs.
use Rattle.std.proofs.Common.{◌≡◌, ◌⊎◌, ℕ, List, [], ◌∷◌, ◌++◌, length, true, sym, ap, subst, ◌∙◌, inl, inr}
use mathlib.Core.Bool.{true≢false}
use Rattle.std.specs.List.{AllByRecursion, range_with_len}
use Rattle.nvm_audit.specs.declared.audit_fault.AuditFault.{AuditFault}
use Rattle.nvm_audit.specs.declared.audit_fault.AuditFault.TheVariants.{NoMemory}
use Rattle.nvm_audit.specs.FirstFailed.{IsFirstFailed}
use Rattle.nvm_audit.specs.LawfulRecord.{HaveShapes}
use Rattle.nvm_audit.specs.NamedUnit.{names_unit}
use Rattle.nvm_audit.specs.Recordable.{IsRecordable}
use Rattle.nvm_audit.specs.RecordChecks.{RecordCheck, job_done, job_once, shape_right, Passes, count_checks, shape_checks, checks_of_units, fault_of, IsFirstFault}
use Rattle.nvm_audit.specs.RecordView.{RecordView}
use Rattle.nvm_audit.proofs.EachPasses as each
use Rattle.nvm_audit.proofs.RecordChecksPass.{shape_each}

module _ {C : Type 0} (P Q : C → Type 0) where
  -- The first that fails is among the last where none of those before it can be it.
  all_before : (xs ys : List C) (check : C) → AllByRecursion (λ c. ¬ (Q c)) xs → Q check → IsFirstFailed P (xs ++ ys) check
      → AllByRecursion P xs
  all_before [] ys check none is first = tt
  all_before (x ∷ xs) ys check none is (inl here) = absurd (none.0 (subst Q here.0 is))
  all_before (x ∷ xs) ys check none is (inr after) = (after.0, all_before xs ys check none.1 is after.1)

-- What the check finds names a unit.
abbrev FindsInUnit : RecordCheck → Type 0
FindsInUnit check = names_unit (fault_of check) ≡ true

counts_find_none : (jobs : ℕ) → AllByRecursion (λ c. ¬ (FindsInUnit c)) (count_checks jobs)
counts_find_none jobs =
    each.each_list (λ c. ¬ (FindsInUnit c)) (λ number. job_done number ∷ job_once number ∷ []) 0 jobs
    (λ number lt. ((λ is. true≢false (sym is)), ((λ is. true≢false (sym is)), tt)))

shapes_find_none : (jobs : ℕ) → AllByRecursion (λ c. ¬ (FindsInUnit c)) (shape_checks jobs)
shapes_find_none jobs =
    each.mapped (λ c. ¬ (FindsInUnit c)) shape_right (range_with_len 0 jobs)
    (each.of_range (λ number. ¬ (FindsInUnit (shape_right number))) 0 jobs (λ number is. true≢false (sym is)))

pub shapes_before : (r : RecordView) (fault : AuditFault) → IsRecordable r → IsFirstFault r fault ⊎ (fault ≡ NoMemory)
    → names_unit fault ≡ true → HaveShapes r
shapes_before r fault held (inr memory) is = absurd (true≢false (sym is ∙ ap names_unit memory))
shapes_before r fault held (inl first) is =
    let jobs = length r.jobs in
    let found : FindsInUnit first.check = ap names_unit (sym first.is) ∙ is in
    let all = all_before (Passes r) FindsInUnit (count_checks jobs ++ shape_checks jobs) (checks_of_units r 0 r.units) first.check
    (each.joined (λ c. ¬ (FindsInUnit c)) (count_checks jobs) (shape_checks jobs) (counts_find_none jobs) (shapes_find_none jobs))
    found first.first in
    shape_each r held (each.behind (Passes r) (count_checks jobs) (shape_checks jobs) all)
