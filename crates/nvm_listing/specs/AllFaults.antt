-- All that is wrong in a record (own): the first fault of each unit that has one, in the order of the units. Before units can be judged,
-- each job has to be right by itself; where one isn't, the record's first fault is its only one.
use Rattle.std.specs.Prelude.{◌≡◌, ◌⊎◌, ℕ, ◌+◌, List, [], ◌∷◌, Bool, true, false, Option, MatchOption}
use Rattle.nvm_record.specs.Lists.{IsAt}
use Rattle.nvm_store.specs.HistoryEntry.{HistoryEntry}
use Rattle.nvm_audit.specs.LawfulRecord.{IsLawfulRecord}
use Rattle.nvm_audit.specs.NamedUnit.{names_unit}
use Rattle.nvm_audit.specs.RecordChecks.{IsFirstFault}
use Rattle.nvm_audit.specs.RecordView.{RecordView}
use Rattle.nvm_audit.specs.UnitChecks.{HasNoUnitFault, IsFirstUnitFault}
use Rattle.nvm_audit.specs.UnitView.{view_of_unit}
use Rattle.nvm_audit.specs.Verdict.{IsVerdict}
use Rattle.nvm_audit.specs.declared.audit_fault.AuditFault.{AuditFault}
use Rattle.nvm_listing.specs.declared.faults.Faults.{Faults}
use Rattle.nvm_listing.specs.declared.faults.Faults.TheVariants.{Lawful, Unlawful}

-- It is the first fault of the unit, or none where nothing is wrong there.
abbrev pub IsFoundInUnit : RecordView → ℕ → Option AuditFault → Type 0
IsFoundInUnit r unit found =
    (history : List HistoryEntry) → IsAt r.units unit history
    → MatchOption found (HasNoUnitFault (view_of_unit r unit history)) (IsFirstUnitFault (view_of_unit r unit history))

-- The first of these faults is that of the unit with this history, and the others are as they should be.
pub record BeginsWithFault (r : RecordView) (unit : ℕ) (history : List HistoryEntry) (AreOthers : List AuditFault → Type 0)
    (faults : List AuditFault) : Type 0 where
  pub fault : AuditFault
  pub others : List AuditFault
  pub first : IsFirstUnitFault (view_of_unit r unit history) fault
  pub behind : AreOthers others
  pub all : faults ≡ fault ∷ others

-- The faults are the first ones of exactly those of these units that have one, in their order. The first unit has this number.
abbrev pub AreFaultsOfUnits : RecordView → ℕ → List (List HistoryEntry) → List AuditFault → Type 0
AreFaultsOfUnits r unit [] faults = faults ≡ []
AreFaultsOfUnits r unit (history ∷ rest) faults =
    (HasNoUnitFault (view_of_unit r unit history) × AreFaultsOfUnits r (unit + 1) rest faults)
    ⊎ BeginsWithFault r unit history (AreFaultsOfUnits r (unit + 1) rest) faults

-- The faults are all of a record that has this first fault: those of its units where it names one, and else it alone.
abbrev pub AreFaultsAfter : Bool → RecordView → AuditFault → List AuditFault → Type 0
AreFaultsAfter true r first faults = AreFaultsOfUnits r 0 r.units faults
AreFaultsAfter false r first faults = faults ≡ first ∷ []

-- It is the first of these faults.
abbrev pub IsFirstOf : AuditFault → List AuditFault → Type 0
IsFirstOf fault faults = (others : List AuditFault) × (faults ≡ fault ∷ others)

-- There are faults, and this is the first.
abbrev pub BeginWith : AuditFault → Faults → Type 0
BeginWith fault (Lawful verdict) = ⊥
BeginWith fault (Unlawful faults) = IsFirstOf fault faults.items

-- The record is lawful, with the verdict's numbers; or it has a first fault, and these are all.
abbrev pub AreFaults : RecordView → Faults → Type 0
AreFaults r (Lawful verdict) = IsLawfulRecord r × IsVerdict r verdict
AreFaults r (Unlawful faults) = (first : AuditFault) × IsFirstFault r first × AreFaultsAfter (names_unit first) r first faults.items

-- the exit status of what was found
abbrev pub faults_status : Faults → ℕ
faults_status (Lawful verdict) = 0
faults_status (Unlawful faults) = 2
