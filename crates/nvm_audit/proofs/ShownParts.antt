-- What is shown of a unit with parts that are exactly those which name it.
use Rattle.std.proofs.Common.{◌≡◌, ℕ, ◌<◌, List, length, map, get_or, Option, MatchOption, sym, ap, subst, ◌∙◌}
use Rattle.std.proofs.lemmas.List.{get_or-map, length-map}
use Rattle.nvm_record.specs.Lists.{IsAt}
use Rattle.nvm_store.specs.HistoryEntry.{HistoryEntry}
use Rattle.nvm_audit.specs.declared.audit_fault.AuditFault.{AuditFault}
use Rattle.nvm_audit.specs.Inside.Audited.{IsKnownUnit}
use Rattle.nvm_audit.specs.RecordedPart.{RecordedPart, parts_in_unit}
use Rattle.nvm_audit.specs.RecordView.{RecordView}
use Rattle.nvm_audit.specs.UnitChecks.{HasNoUnitFault, IsFirstUnitFault}
use Rattle.nvm_audit.specs.UnitView.{UnitView, view_of_unit}
use Rattle.nvm_audit.proofs.Places.{stands_read}
use Rattle.nvm_audit.proofs.Standing.{one_there}

-- the unit with these parts
abbrev pub unit_with : RecordView → ℕ → List HistoryEntry → List RecordedPart → UnitView
unit_with r unit history parts =
    record { namespace = r.namespace; limit = r.limit; jobs = r.jobs; unit = unit; history = history; parts = parts }

-- What was read of lists of lists is where it was read.
pub stands_within : {X Y : Type 0} (f : X → Y) (xs : List X) (i : ℕ) (x : X) → i < length (map f xs) → x ≡ get_or xs i x → IsAt (map f xs) i (f x)
stands_within f xs i x low read =
    let below = subst (λ (n : ℕ). i < n) (length-map xs f) low in
    stands_read (map f xs) i (f x) low (ap f read ∙ sym (get_or-map f xs i x (f x) below))

pub known_with : (r : RecordView) (unit : ℕ) (history : List HistoryEntry) (parts : List RecordedPart)
    → IsKnownUnit (view_of_unit r unit history) → parts ≡ parts_in_unit unit r.done → IsKnownUnit (unit_with r unit history parts)
known_with r unit history parts known is = subst (λ (ps : List RecordedPart). IsKnownUnit (unit_with r unit history ps)) (sym is) known

abbrev pub IsToldOf : Option AuditFault → UnitView → Type 0
IsToldOf found u = MatchOption found (HasNoUnitFault u) (IsFirstUnitFault u)

pub told_with : (shown r : RecordView) → shown ≡ r → (unit : ℕ) (history : List HistoryEntry) (parts : List RecordedPart)
    → parts ≡ parts_in_unit unit r.done → IsAt shown.units unit history → (found : Option AuditFault)
    → IsToldOf found (unit_with shown unit history parts) → (other : List HistoryEntry) → IsAt r.units unit other
    → IsToldOf found (view_of_unit r unit other)
told_with shown r same unit history parts parts_are at found told other there =
    let whole = subst (λ (x : RecordView). parts ≡ parts_in_unit unit x.done) (sym same) parts_are in
    let stands = subst (λ (x : RecordView). IsAt x.units unit other) (sym same) there in
    let one = one_there shown.units unit history other at stands in
    let named = subst (λ (ps : List RecordedPart). IsToldOf found (unit_with shown unit history ps)) whole told in
    let of = subst (λ (h : List HistoryEntry). IsToldOf found (view_of_unit shown unit h)) one named in
    subst (λ (x : RecordView). IsToldOf found (view_of_unit x unit other)) same of
