-- The entry at a place of a unit's history, and what is left after it.
use Rattle.std.proofs.Common.{◌≡◌, ◌↔◌, ℕ, ◌+◌, List, [], ◌∷◌, ◌++◌, length, drop, Bool, Some, IsTrue, refl, ap, subst, ◌∙◌, arith, inl, inr}
use Rattle.std.proofs.lemmas.List.{drop_more, drop_all}
use Rattle.std.specs.List.{AllByRecursion}
use Rattle.nvm_record.specs.Lists.{IsAt}
use Rattle.nvm_record.specs.Status.{IsSuccess}
use Rattle.nvm_record.specs.Step.{statuses_of}
use Rattle.nvm_plan.specs.declared.job.Job.{Job}
use Rattle.nvm_plan.specs.JobPart.{job_part_in}
use Rattle.nvm_store.specs.HistoryEntry.{HistoryEntry}
use Rattle.nvm_store.specs.Point.{point}
use Rattle.nvm_audit.specs.declared.audit_fault.AuditFault.{AuditFault}
use Rattle.nvm_audit.specs.declared.audit_fault.AuditFault.TheVariants.{EntryUnclaimed, EntryWrong}
use Rattle.nvm_audit.specs.FirstFailed.{IsFirstFailed}
use Rattle.nvm_audit.specs.Inside.Audited.{Leads, IsFirstAmong, checks_of_entry}
use Rattle.nvm_audit.specs.LawfulUnit.{IsClaimed}
use Rattle.nvm_audit.specs.UnitChecks.{UnitCheck, entry_right, entry_claimed, IsEntryRight, PassesInUnit, entry_checks, spot}
use Rattle.nvm_audit.specs.UnitView.{UnitView}
use Rattle.nvm_audit.proofs.Standing.{below, one_there, read_is}

-- What was found of the entry by its job is what is asked of it.
pub right_by : (u : UnitView) (place : ℕ) (entry : HistoryEntry) (job : Job) (right : Bool) → IsAt u.jobs entry.job job
    → IsTrue right ↔ ((job_part_in u.namespace job u.unit ≡ Some entry.operation)
    × IsSuccess (statuses_of entry.operation (point u.namespace.block_size u.history place)))
    → IsTrue right ↔ IsEntryRight u place entry
right_by u place entry job right its tells = (
  λ t. let h = tells.0 t in record { part = record { job = job; its = its; part = h.0 }; success = h.1 },
  λ r.
      let same = one_there u.jobs entry.job r.part.job job r.part.its its in
      tells.1 (subst (λ (j : Job). job_part_in u.namespace j u.unit ≡ Some entry.operation) same r.part.part, r.success),
)

pub wrong_entry : (u : UnitView) (place : ℕ) (entry : HistoryEntry) (number : ℕ) → number ≡ entry.job → ¬ (IsEntryRight u place entry)
    → IsFirstAmong u (checks_of_entry place entry) (EntryWrong number (spot u.unit place))
wrong_entry u place entry number is none =
    record { check = entry_right place entry; first = inl (refl, none); is = ap (λ (n : ℕ). EntryWrong n (spot u.unit place)) is }

pub unclaimed_entry : (u : UnitView) (place : ℕ) (entry : HistoryEntry) (number : ℕ) → number ≡ entry.job → IsEntryRight u place entry
    → ¬ (IsClaimed u.parts place entry)
    → IsFirstAmong u (checks_of_entry place entry) (EntryUnclaimed number (spot u.unit place))
unclaimed_entry u place entry number is right none =
    record {
      check = entry_claimed place entry;
      first = inr (right, inl (refl, none));
      is = ap (λ (n : ℕ). EntryUnclaimed n (spot u.unit place)) is;
    }

module _ {C : Type 0} (P : C → Type 0) where
  -- A failed check stays the first with others after it.
  pub first_of_front : (front rest : List C) (check : C) → IsFirstFailed P front check → IsFirstFailed P (front ++ rest) check
  first_of_front [] rest check h = absurd h
  first_of_front (c ∷ cs) rest check (inl h) = inl h
  first_of_front (c ∷ cs) rest check (inr h) = inr (h.0, first_of_front cs rest check h.1)

  pub first_behind : (front rest : List C) (check : C) → AllByRecursion P front → IsFirstFailed P rest check → IsFirstFailed P (front ++ rest) check
  first_behind [] rest check all h = h
  first_behind (c ∷ cs) rest check all h = inr (all.0, first_behind cs rest check all.1 h)

  pub all_of_both : (front rest : List C) → AllByRecursion P front → AllByRecursion P rest → AllByRecursion P (front ++ rest)
  all_of_both [] rest all h = h
  all_of_both (c ∷ cs) rest all h = (all.0, all_of_both cs rest all.1 h)

  pub leads_all : (all : List C) → Leads P all all
  leads_all all = record { all_pass = λ h. h; first = λ c h. h }

  pub leads_over : (front rest all : List C) → AllByRecursion P front → Leads P (front ++ rest) all → Leads P rest all
  leads_over front rest all passed old =
      record {
        all_pass = λ h. old.all_pass (all_of_both front rest passed h);
        first = λ c h. old.first c (first_behind front rest c passed h);
      }

-- the checks from a place on: those of the entry there, then those after it
left_at : (history : List HistoryEntry) (place : ℕ) (entry : HistoryEntry) → IsAt history place entry
    → entry_checks place (drop place history) ≡ checks_of_entry place entry ++ entry_checks (place + 1) (drop (place + 1) history)
left_at history place entry at =
    let low = below history place entry at in
    let read = read_is history place entry entry at in
    let front = drop_more history place entry low ∙ ap (λ (e : HistoryEntry). e ∷ drop (place + 1) history) read in
    ap (λ (es : List HistoryEntry). entry_checks place es) front

pub leads_to_next : (u : UnitView) (place : ℕ) (entry : HistoryEntry) → IsAt u.history place entry
    → AllByRecursion (PassesInUnit u) (checks_of_entry place entry)
    → Leads (PassesInUnit u) (entry_checks place (drop place u.history)) (entry_checks 0 u.history)
    → Leads (PassesInUnit u) (entry_checks (place + 1) (drop (place + 1) u.history)) (entry_checks 0 u.history)
leads_to_next u place entry at passed old =
    leads_over (PassesInUnit u) (checks_of_entry place entry) (entry_checks (place + 1) (drop (place + 1) u.history)) (entry_checks 0 u.history) passed
    (subst (λ (cs : List UnitCheck). Leads (PassesInUnit u) cs (entry_checks 0 u.history)) (left_at u.history place entry at) old)

pub leads_to_fault : (u : UnitView) (place : ℕ) (entry : HistoryEntry) (fault : AuditFault) → IsAt u.history place entry
    → IsFirstAmong u (checks_of_entry place entry) fault
    → Leads (PassesInUnit u) (entry_checks place (drop place u.history)) (entry_checks 0 u.history)
    → IsFirstAmong u (entry_checks 0 u.history) fault
leads_to_fault u place entry fault at found old =
    let here = subst (λ (cs : List UnitCheck). Leads (PassesInUnit u) cs (entry_checks 0 u.history)) (left_at u.history place entry at) old in
    record {
      check = found.check;
      first = here.first found.check
          (first_of_front (PassesInUnit u) (checks_of_entry place entry) (entry_checks (place + 1) (drop (place + 1) u.history)) found.check found.first);
      is = found.is;
    }

-- At the history's end none is left.
pub leads_to_end : (u : UnitView) → Leads (PassesInUnit u) (entry_checks (length u.history) (drop (length u.history) u.history)) (entry_checks 0 u.history)
    → AllByRecursion (PassesInUnit u) (entry_checks 0 u.history)
leads_to_end u leads =
    let none = drop_all (length u.history) u.history (omega arith) in
    (subst (λ (es : List HistoryEntry). Leads (PassesInUnit u) (entry_checks (length u.history) es) (entry_checks 0 u.history)) none leads).all_pass tt
