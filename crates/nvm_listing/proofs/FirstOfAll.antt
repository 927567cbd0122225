-- The record's first fault is the first of the faults of its units, where it names one.
use Rattle.std.proofs.Common.{◌≡◌, ◌⊎◌, ℕ, ◌+◌, List, [], ◌∷◌, ◌++◌, true, false, length, map, refl, sym, ap, ◌∙◌, inl, inr}
use Rattle.std.specs.List.{AllByRecursion, flat_map, range_with_len}
use Rattle.nvm_store.specs.HistoryEntry.{HistoryEntry}
use Rattle.nvm_audit.specs.FirstFailed.{IsFirstFailed}
use Rattle.nvm_audit.specs.NamedUnit.{names_unit}
use Rattle.nvm_audit.specs.RecordChecks.{RecordCheck, job_done, job_once, shape_right, in_unit, Passes, checks_of_units, count_checks, shape_checks, fault_of, IsFirstFault}
use Rattle.nvm_audit.specs.RecordView.{RecordView}
use Rattle.nvm_audit.specs.UnitChecks.{UnitCheck, PassesInUnit, unit_checks, fault_in}
use Rattle.nvm_audit.specs.UnitView.{UnitView, view_of_unit}
use Rattle.nvm_audit.specs.declared.audit_fault.AuditFault.{AuditFault}
use Rattle.nvm_listing.specs.AllFaults.{AreFaultsOfUnits, IsFirstOf}

module _ {C : Type 0} (P : C → Type 0) where
  -- The first that fails is among the front ones, or they all pass.
  among : (front rest : List C) (c : C) → IsFirstFailed P (front ++ rest) c
      → IsFirstFailed P front c ⊎ (AllByRecursion P front × IsFirstFailed P rest c)
  among [] rest c h = inr (tt, h)
  among (x ∷ front) rest c h = elim h [
    | inl here ↦ inl (inl here)
    | inr more ↦ elim (among front rest c more.1) [
      | inl early ↦ inl (inr (more.0, early))
      | inr late ↦ inr ((more.0, late.0), late.1)
    ]
  ]

  none_failed : (cs : List C) (c : C) → AllByRecursion P cs → IsFirstFailed P cs c → ⊥
  none_failed [] c all h = h
  none_failed (x ∷ cs) c all h = elim h [ inl here ↦ here.1 all.0 | inr more ↦ none_failed cs c all.1 more.1 ]

  one_failed : (cs : List C) (c d : C) → IsFirstFailed P cs c → IsFirstFailed P cs d → c ≡ d
  one_failed [] c d h k = absurd h
  one_failed (x ∷ cs) c d h k = elim h [
    | inl here ↦ elim k [ inl there ↦ here.0 ∙ sym there.0 | inr more ↦ absurd (here.1 more.0) ]
    | inr left ↦ elim k [ inl there ↦ absurd (there.1 left.0) | inr more ↦ one_failed cs c d left.1 more.1 ]
  ]

module _ (r : RecordView) where
  no_unit_in_counts : (numbers : List ℕ) (c : RecordCheck)
      → IsFirstFailed (Passes r) (flat_map (λ number. job_done number ∷ job_once number ∷ []) numbers) c → names_unit (fault_of c) ≡ false
  no_unit_in_counts [] c h = absurd h
  no_unit_in_counts (n ∷ numbers) c h = elim h [
    | inl done ↦ ap (λ (check : RecordCheck). names_unit (fault_of check)) done.0
    | inr more ↦ elim more.1 [
      | inl once ↦ ap (λ (check : RecordCheck). names_unit (fault_of check)) once.0
      | inr others ↦ no_unit_in_counts numbers c others.1
    ]
  ]

  no_unit_in_shapes : (numbers : List ℕ) (c : RecordCheck) → IsFirstFailed (Passes r) (map shape_right numbers) c
      → names_unit (fault_of c) ≡ false
  no_unit_in_shapes [] c h = absurd h
  no_unit_in_shapes (n ∷ numbers) c h = elim h [
    | inl shape ↦ ap (λ (check : RecordCheck). names_unit (fault_of check)) shape.0
    | inr more ↦ no_unit_in_shapes numbers c more.1
  ]

  -- The unit's check that fails first.
  record FailsInUnit (u : UnitView) (checks : List UnitCheck) (c : RecordCheck) : Type 0 where
    check : UnitCheck
    is : c ≡ in_unit u check
    first : IsFirstFailed (PassesInUnit u) checks check

  fails_in_unit : (u : UnitView) (checks : List UnitCheck) (c : RecordCheck) → IsFirstFailed (Passes r) (map (in_unit u) checks) c
      → FailsInUnit u checks c
  fails_in_unit u [] c h = absurd h
  fails_in_unit u (check ∷ checks) c h = elim h [
    | inl here ↦ record { check = check; is = here.0; first = inl (refl, here.1) }
    | inr more ↦
        let rest = fails_in_unit u checks c more.1 in
        record { check = rest.check; is = rest.is; first = inr (more.0, rest.first) }
  ]

  all_in_unit : (u : UnitView) (checks : List UnitCheck) → AllByRecursion (Passes r) (map (in_unit u) checks)
      → AllByRecursion (PassesInUnit u) checks
  all_in_unit u [] all = tt
  all_in_unit u (check ∷ checks) all = (all.0, all_in_unit u checks all.1)

  first_of_units : (unit : ℕ) (units : List (List HistoryEntry)) (c : RecordCheck) → IsFirstFailed (Passes r) (checks_of_units r unit units) c
      → (faults : List AuditFault) → AreFaultsOfUnits r unit units faults → IsFirstOf (fault_of c) faults
  first_of_units unit [] c h faults all = absurd h
  first_of_units unit (history ∷ rest) c h faults all =
      let u = view_of_unit r unit history in
      elim (among (Passes r) (map (in_unit u) (unit_checks u)) (checks_of_units r (unit + 1) rest) c h) [
        | inl here ↦
            let fails = fails_in_unit u (unit_checks u) c here in
            elim all [
              | inl none ↦ absurd (none_failed (PassesInUnit u) (unit_checks u) fails.check none.0 fails.first)
              | inr begins ↦
                  let one = one_failed (PassesInUnit u) (unit_checks u) begins.first.check fails.check begins.first.first fails.first in
                  let same : begins.fault ≡ fault_of c =
                  begins.first.is ∙ ap (λ (check : UnitCheck). fault_in unit check) one ∙ sym (ap fault_of fails.is) in
                  (begins.others, begins.all ∙ ap (λ (fault : AuditFault). fault ∷ begins.others) same)
            ]
        | inr late ↦
            elim all [
              | inl none ↦ first_of_units (unit + 1) rest c late.1 faults none.1
              | inr begins ↦
                  absurd (none_failed (PassesInUnit u) (unit_checks u) begins.first.check (all_in_unit u (unit_checks u) late.0) begins.first.first)
            ]
      ]

  unnamed : {A : Type 0} (c : RecordCheck) → names_unit (fault_of c) ≡ true → names_unit (fault_of c) ≡ false → A
  unnamed c named not = let no : true ≡ false = sym named ∙ not in cc

  pub first_of_all : (first : AuditFault) → IsFirstFault r first → names_unit first ≡ true → (faults : List AuditFault)
      → AreFaultsOfUnits r 0 r.units faults → IsFirstOf first faults
  first_of_all first found named faults all =
      let c = found.check in
      let names : names_unit (fault_of c) ≡ true = ap names_unit (sym found.is) ∙ named in
      let counts = count_checks (length r.jobs) in
      let shapes = shape_checks (length r.jobs) in
      let its : IsFirstOf (fault_of c) faults =
      elim (among (Passes r) (counts ++ shapes) (checks_of_units r 0 r.units) c found.first) [
        | inl early ↦
            elim (among (Passes r) counts shapes c early) [
              | inl count ↦ unnamed c names (no_unit_in_counts (range_with_len 0 (length r.jobs)) c count)
              | inr shape ↦ unnamed c names (no_unit_in_shapes (range_with_len 0 (length r.jobs)) c shape.1)
            ]
        | inr late ↦ first_of_units 0 r.units c late.1 faults all
      ]
      in (its.0, its.1 ∙ ap (λ (fault : AuditFault). fault ∷ its.0) (sym found.is))
