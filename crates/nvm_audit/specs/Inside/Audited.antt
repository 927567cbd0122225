-- One unit while it is audited: what is known of it from the record's type and from the shapes of its jobs.
use Rattle.std.specs.Prelude.{◌≡◌, ◌≢◌, ℕ, ◌+◌, ◌<◌, ◌≤◌, List, [], ◌∷◌, length, drop, Some, IsSome}
use Rattle.std.specs.List.{AllByRecursion}
use Rattle.nvm_record.specs.Deeds.{IsAct}
use Rattle.nvm_record.specs.Lists.{IsAt}
use Rattle.nvm_geometry.specs.Boundaries.{units_of}
use Rattle.nvm_geometry.specs.Faults.{IsValid}
use Rattle.nvm_plan.specs.declared.job.Job.{Job}
use Rattle.nvm_plan.specs.declared.part.PartResult.TheVariants.{Done}
use Rattle.nvm_plan.specs.Fits.{FitsNamespace}
use Rattle.nvm_plan.specs.JobPart.{job_part_in}
use Rattle.nvm_plan.specs.UnitPlace.{IsUnitPlace}
use Rattle.nvm_store.specs.declared.place.Place.{Place}
use Rattle.nvm_store.specs.Contents.{Contents, Holds, place_of}
use Rattle.nvm_store.specs.HistoryEntry.{HistoryEntry}
use Rattle.nvm_store.specs.Limit.{IsLimit}
use Rattle.nvm_store.specs.Place.{IsCovered}
use Rattle.nvm_store.specs.Point.{point}
use Rattle.nvm_audit.specs.declared.audit_fault.AuditFault.{AuditFault}
use Rattle.nvm_audit.specs.declared.judging.Finding.{Finding}
use Rattle.nvm_audit.specs.declared.judging.Finding.TheVariants.{Right, StatusWrong, DataWrong}
use Rattle.nvm_audit.specs.declared.shown_unit.ShownUnit.{ShownUnit}
use Rattle.nvm_audit.specs.FirstFailed.{IsFirstFailed}
use Rattle.nvm_audit.specs.Recordable.{most_workers, IsLongAsRead}
use Rattle.nvm_audit.specs.RecordedPart.{RecordedPart}
use Rattle.nvm_audit.specs.UnitChecks.{UnitCheck, entry_right, entry_claimed, HasItsStatus, HasItsData, PassesInUnit, entry_checks, fault_in}
use Rattle.nvm_audit.specs.UnitView.{UnitView}

-- what is shown of the unit, as plain data
abbrev pub view_of_shown : ShownUnit → UnitView
view_of_shown u =
    record {
      namespace = u.geometry.now;
      limit = u.limit;
      jobs = u.jobs.now.items;
      unit = u.unit;
      history = u.history.now.items;
      parts = u.parts.now.items;
    }

-- The entry names a job, and changes blocks of this unit alone.
pub record IsKnownEntry (u : UnitView) (entry : HistoryEntry) : Type 0 where
  pub job : entry.job < length u.jobs
  pub act : IsAct entry.operation.deed
  pub covered : (place : Place) → IsUnitPlace u.namespace u.unit place → IsCovered place entry.operation

-- The part names the unit and a job that has a part there, and data is recorded of a Read alone, as long as its blocks.
pub record IsKnownPart (u : UnitView) (p : RecordedPart) : Type 0 where
  pub worker : p.worker < most_workers
  pub unit : p.part.unit ≡ u.unit
  pub job : Job
  pub its : IsAt u.jobs p.done.job job
  pub there : IsSome (job_part_in u.namespace job p.part.unit)
  pub whole : (bytes : List ℕ) → p.done.payload ≡ Some bytes → IsLongAsRead u.namespace job bytes

-- What is known of a unit of a record whose jobs have their shapes.
pub record IsKnownUnit (u : UnitView) : Type 0 where
  pub valid : IsValid u.namespace
  pub inside : u.unit < units_of u.namespace
  pub fits : (number : ℕ) (job : Job) → IsAt u.jobs number job → FitsNamespace u.namespace job
  pub limit : IsLimit u.limit
  pub few : length u.history ≤ u.limit
  pub entries : (i : ℕ) (entry : HistoryEntry) → IsAt u.history i entry → IsKnownEntry u entry
  pub parts : (k : ℕ) (p : RecordedPart) → IsAt u.parts k p → IsKnownPart u p

-- The part ended right. Of one that was done that is known by its entry.
abbrev pub EndedRight : UnitView → RecordedPart → Type 0
EndedRight u p = p.part.result ≢ Done → HasItsStatus u p

-- It is exactly what is found of the part at its point.
abbrev pub IsJudged : UnitView → RecordedPart → Finding → Type 0
IsJudged u p Right = EndedRight u p × HasItsData u p
IsJudged u p StatusWrong = (p.part.result ≢ Done) × (¬ (HasItsStatus u p))
IsJudged u p DataWrong = EndedRight u p × (¬ (HasItsData u p))

-- Each part whose point is below this one is judged.
abbrev pub AreJudgedBelow : UnitView → ℕ → List Finding → Type 0
AreJudgedBelow u n findings =
    (k : ℕ) (p : RecordedPart) (f : Finding) → IsAt u.parts k p → p.part.point < n → IsAt findings k f → IsJudged u p f

-- Of the first `count` parts with this point, the last has number `at` less 1; there is none where `at` is 0.
pub record IsLastAt (parts : List RecordedPart) (n count at : ℕ) : Type 0 where
  pub within : at ≤ count
  pub there : (k : ℕ) (p : RecordedPart) → at ≡ k + 1 → IsAt parts k p → p.part.point ≡ n
  pub last : (k : ℕ) (p : RecordedPart) → at ≤ k → k < count → IsAt parts k p → p.part.point ≢ n

-- For each point of a history of `entries` entries the last part there, and for each such part the one before it at its point.
pub record AreByPoint (entries : ℕ) (parts : List RecordedPart) (last before : List ℕ) : Type 0 where
  pub points : length last ≡ entries + 1
  pub numbers : length before ≡ length parts
  pub at_point : (n at : ℕ) → IsAt last n at → IsLastAt parts n (length parts) at
  pub earlier : (k at : ℕ) (p : RecordedPart) → IsAt before k at → IsAt parts k p → p.part.point ≤ entries
      → IsLastAt parts p.part.point k at

-- The parts with this point are judged from the last one down to that before which there are `at` parts; those with lower points are.
pub record IsJudgedDownTo (u : UnitView) (n at : ℕ) (findings : List Finding) : Type 0 where
  pub long : length findings ≡ length u.parts
  pub within : at ≤ length u.parts
  pub there : (k : ℕ) (p : RecordedPart) → at ≡ k + 1 → IsAt u.parts k p → p.part.point ≡ n
  pub before : AreJudgedBelow u n findings
  pub done : (k : ℕ) (p : RecordedPart) (f : Finding) → at ≤ k → IsAt u.parts k p → p.part.point ≡ n → IsAt findings k f
      → IsJudged u p f

-- What is so of the checks that are left is so of all: where they all pass, all do, and the first of them that fails is the
-- first of all.
pub record Leads {C : Type 0} (P : C → Type 0) (left all : List C) : Type 0 where
  pub all_pass : AllByRecursion P left → AllByRecursion P all
  pub first : (c : C) → IsFirstFailed P left c → IsFirstFailed P all c

-- It is the first fault that these checks of the unit find.
pub record IsFirstAmong (u : UnitView) (checks : List UnitCheck) (fault : AuditFault) : Type 0 where
  pub check : UnitCheck
  pub first : IsFirstFailed (PassesInUnit u) checks check
  pub is : fault ≡ fault_in u.unit check

-- The checks of the entry at this place.
abbrev pub checks_of_entry : ℕ → HistoryEntry → List UnitCheck
checks_of_entry place entry = entry_right place entry ∷ entry_claimed place entry ∷ []

-- The entries before this place were found right and claimed, the parts before it are judged, and the blocks are those there.
pub record IsWalkedTo (u : UnitView) (place : ℕ) (blocks : Contents) (findings : List Finding) : Type 0 where
  pub lies : IsUnitPlace u.namespace u.unit (place_of blocks)
  pub held : Holds blocks (point u.namespace.block_size u.history place)
  pub long : length findings ≡ length u.parts
  pub judged : AreJudgedBelow u place findings
  pub leads : Leads (PassesInUnit u) (entry_checks place (drop place u.history)) (entry_checks 0 u.history)

-- All entries are right and claimed, and each part that the history has come to is judged.
pub record IsWalkedWhole (u : UnitView) (findings : List Finding) : Type 0 where
  pub entries : AllByRecursion (PassesInUnit u) (entry_checks 0 u.history)
  pub long : length findings ≡ length u.parts
  pub judged : AreJudgedBelow u (length u.history + 1) findings
