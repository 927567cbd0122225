-- Either all checks pass, and then none is the first that doesn't, or one alone is. None finds want of memory.
use Rattle.std.proofs.Common.{◌≡◌, ◌⊎◌, ℕ, List, [], ◌∷◌, Bool, true, false, refl, sym, ap, ◌∙◌, inl, inr}
use mathlib.Core.Bool.{true≢false}
use Rattle.std.specs.List.{AllByRecursion}
use Rattle.nvm_audit.specs.declared.audit_fault.AuditFault.{AuditFault}
use Rattle.nvm_audit.specs.declared.audit_fault.AuditFault.TheVariants.{JobMissing, JobTwice, EntryUnclaimed, EntryWrong, PointPast, PointBack, StatusWrong, DataWrong, NoMemory}
use Rattle.nvm_audit.specs.FirstFailed.{IsFirstFailed}
use Rattle.nvm_audit.specs.RecordChecks.{RecordCheck, job_done, job_once, shape_right, in_unit, Passes, record_checks, fault_of, HasNoFault, IsFirstFault}
use Rattle.nvm_audit.specs.RecordView.{RecordView}
use Rattle.nvm_audit.proofs.Decided.{IsDecided}
use Rattle.nvm_audit.proofs.ChecksDecided.{check_decided}
use Rattle.nvm_audit.specs.UnitChecks.{UnitCheck, entry_right, entry_claimed, point_there, point_on, status_right, payload_right, fault_in}

module _ {C : Type 0} (P : C → Type 0) where
  one : (cs : List C) (check other : C) → IsFirstFailed P cs check → IsFirstFailed P cs other → check ≡ other
  one [] check other is also = absurd is
  one (c ∷ cs) check other (inl here) (inl there) = here.0 ∙ sym there.0
  one (c ∷ cs) check other (inl here) (inr after) = absurd (here.1 after.0)
  one (c ∷ cs) check other (inr after) (inl there) = absurd (there.1 after.0)
  one (c ∷ cs) check other (inr after) (inr later) = one cs check other after.1 later.1

  first_or_none : ((c : C) → IsDecided (P c)) → (cs : List C) → AllByRecursion P cs ⊎ ((check : C) × IsFirstFailed P cs check)
  first_or_none decided [] = inl tt
  first_or_none decided (c ∷ cs) = elim (decided c) [
    | inl passes ↦ elim (first_or_none decided cs) [
      | inl rest ↦ inl (passes, rest)
      | inr after ↦ inr (after.0, inr (passes, after.1))
    ]
    | inr fails ↦ inr (c, inl (refl, fails))
  ]

  none_passes : (cs : List C) (check : C) → AllByRecursion P cs → IsFirstFailed P cs check → ⊥
  none_passes [] check all is = is
  none_passes (c ∷ cs) check all (inl here) = here.1 all.0
  none_passes (c ∷ cs) check all (inr after) = none_passes cs check all.1 after.1

pub one_fault : (r : RecordView) (fault other : AuditFault) → IsFirstFault r fault → IsFirstFault r other → fault ≡ other
one_fault r fault other first also =
    first.is ∙ ap fault_of (one (Passes r) (record_checks r) first.check also.check first.first also.first) ∙ sym also.is

pub no_fault : (r : RecordView) (fault : AuditFault) → HasNoFault r → IsFirstFault r fault → ⊥
no_fault r fault none first = none_passes (Passes r) (record_checks r) first.check none first.first

pub clean_or_first : (r : RecordView) → HasNoFault r ⊎ ((fault : AuditFault) × IsFirstFault r fault)
clean_or_first r = elim (first_or_none (Passes r) (check_decided r) (record_checks r)) [
  | inl none ↦ inl none
  | inr found ↦ inr (fault_of found.0, record { check = found.0; first = found.1; is = refl })
]

abbrev is_memory : AuditFault → Bool
is_memory (JobMissing job) = false
is_memory (JobTwice job) = false
is_memory (EntryUnclaimed job at) = false
is_memory (EntryWrong job at) = false
is_memory (PointPast job at) = false
is_memory (PointBack job at) = false
is_memory (StatusWrong job at) = false
is_memory (DataWrong job at) = false
is_memory NoMemory = true

found_in_unit : (unit : ℕ) (check : UnitCheck) → is_memory (fault_in unit check) ≡ false
found_in_unit unit (entry_right place entry) = refl
found_in_unit unit (entry_claimed place entry) = refl
found_in_unit unit (point_there p) = refl
found_in_unit unit (point_on before p) = refl
found_in_unit unit (status_right p) = refl
found_in_unit unit (payload_right p) = refl

found : (check : RecordCheck) → is_memory (fault_of check) ≡ false
found (job_done number) = refl
found (job_once number) = refl
found (shape_right number) = refl
found (in_unit u check) = found_in_unit u.unit check

pub not_memory : (r : RecordView) → IsFirstFault r NoMemory → ⊥
not_memory r first = true≢false (ap is_memory first.is ∙ found first.check)
