-- The faults of the units, one unit after the other.
use Rattle.std.proofs.Common.{◌≡◌, ℕ, ◌+◌, ◌<◌, ◌≤◌, List, [], ◌∷◌, ◌++◌, Some, None, length, drop, get_or, refl, sym, subst, inl, inr, add-one, append_assoc, append-nil, drop-cons}
use Rattle.std.proofs.Math.ListN.{drop_of_length-le}
use Rattle.nvm_store.specs.HistoryEntry.{HistoryEntry}
use Rattle.nvm_audit.specs.RecordView.{RecordView}
use Rattle.nvm_audit.specs.declared.audit_fault.AuditFault.{AuditFault}
use Rattle.nvm_audit.specs.RecordedPart.{parts_in_unit}
use Rattle.nvm_audit.specs.UnitChecks.{HasNoUnitFault}
use Rattle.nvm_audit.specs.UnitView.{view_of_unit}
use Rattle.nvm_audit.proofs.Standing.{read_there}
use Rattle.nvm_listing.specs.AllFaults.{AreFaultsOfUnits, IsFoundInUnit}

-- With the faults of the units from this one on, these faults are all.
abbrev pub AreFaultsBefore : RecordView → ℕ → List AuditFault → Type 0
AreFaultsBefore r unit faults =
    (others : List AuditFault) → AreFaultsOfUnits r unit (drop unit r.units) others → AreFaultsOfUnits r 0 r.units (faults ++ others)

drop_here : (units : List (List HistoryEntry)) (unit : ℕ) → unit < length units
    → drop unit units ≡ get_or units unit [] ∷ drop (unit + 1) units
drop_here units unit low =
    subst (λ (n : ℕ). drop unit units ≡ get_or units unit [] ∷ drop n units) (sym (add-one unit)) (drop-cons units unit [] low)

pub none_here : (r : RecordView) (unit : ℕ) (faults : List AuditFault) → unit < length r.units → AreFaultsBefore r unit faults
    → IsFoundInUnit r unit None → AreFaultsBefore r (unit + 1) faults
none_here r unit faults low before found = λ others behind.
    before others (subst (λ (histories : List (List HistoryEntry)). AreFaultsOfUnits r unit histories others) (sym (drop_here r.units unit low))
    (inl (found (get_or r.units unit []) (read_there r.units unit [] low), behind)))

pub fault_here : (r : RecordView) (unit : ℕ) (faults : List AuditFault) (fault : AuditFault) → unit < length r.units
    → AreFaultsBefore r unit faults → IsFoundInUnit r unit (Some fault) → AreFaultsBefore r (unit + 1) (faults ++ fault ∷ [])
fault_here r unit faults fault low before found = λ others behind.
    subst (λ (all : List AuditFault). AreFaultsOfUnits r 0 r.units all) (sym (append_assoc faults (fault ∷ []) others))
    (before (fault ∷ others)
    (subst (λ (histories : List (List HistoryEntry)). AreFaultsOfUnits r unit histories (fault ∷ others)) (sym (drop_here r.units unit low))
    (inr (record {
      fault = fault;
      others = others;
      first = found (get_or r.units unit []) (read_there r.units unit [] low);
      behind = behind;
      all = refl;
    }))))

pub all_here : (r : RecordView) (unit : ℕ) (faults : List AuditFault) → length r.units ≤ unit → AreFaultsBefore r unit faults
    → AreFaultsOfUnits r 0 r.units faults
all_here r unit faults past before =
    subst (λ (all : List AuditFault). AreFaultsOfUnits r 0 r.units all) (append-nil faults)
    (before [] (subst (λ (histories : List (List HistoryEntry)). AreFaultsOfUnits r unit histories []) (sym (drop_of_length-le r.units past)) refl))

-- Nothing is wrong in a unit without entries that no part names.
pub none_in_unused : (r : RecordView) (unit : ℕ) → parts_in_unit unit r.done ≡ [] → HasNoUnitFault (view_of_unit r unit [])
none_in_unused r unit none = rw none tt
