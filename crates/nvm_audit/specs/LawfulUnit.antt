-- When what a record shows of one unit is lawful: the unit is one thread's block store, and each part that names it is one
-- step there (own).
use Rattle.std.specs.Prelude.{◌≡◌, ℕ, List, Some}
use Rattle.nvm_record.specs.Lists.{IsAt}
use Rattle.nvm_geometry.specs.Namespace.{Namespace}
use Rattle.nvm_plan.specs.declared.job.Job.{Job}
use Rattle.nvm_plan.specs.declared.part.PartResult.TheVariants.{Done}
use Rattle.nvm_plan.specs.JobPart.{job_part_in}
use Rattle.nvm_plan.specs.UnitPlace.{IsUnitPlace}
use Rattle.nvm_store.specs.declared.place.Place.{Place}
use Rattle.nvm_store.specs.History.{IsLawfulHistory}
use Rattle.nvm_store.specs.HistoryEntry.{HistoryEntry}
use Rattle.nvm_audit.specs.RecordedPart.{RecordedPart}
use Rattle.nvm_audit.specs.PointOrder.{PointsNeverGoBack}
use Rattle.nvm_audit.specs.Resting.{IsRightAtItsPoint}

-- The entry is exactly its job's part in the unit.
pub record IsPartOfItsJob (ns : Namespace) (jobs : List Job) (unit : ℕ) (entry : HistoryEntry) : Type 0 where
  pub job : Job
  pub its : IsAt jobs entry.job job
  pub part : job_part_in ns job unit ≡ Some entry.operation

-- The part made the entry that is entry i of the history.
pub record MadeEntry (i : ℕ) (entry : HistoryEntry) (p : RecordedPart) : Type 0 where
  pub worker : entry.pass ≡ p.worker
  pub job : entry.job ≡ p.done.job
  pub result : p.part.result ≡ Done
  pub point : p.part.point ≡ i

-- One of the parts made the entry that is entry i of the history.
abbrev pub IsClaimed : List RecordedPart → ℕ → HistoryEntry → Type 0
IsClaimed parts i entry = (k : ℕ) × (p : RecordedPart) × IsAt parts k p × MadeEntry i entry p

-- The history has, at the part's point, the entry that the part made.
abbrev pub HasMadeEntry : List HistoryEntry → RecordedPart → Type 0
HasMadeEntry history p = (entry : HistoryEntry) × IsAt history p.part.point entry × MadeEntry p.part.point entry p

-- The unit of this number has this history, and these parts name it.
pub record IsLawfulUnit (ns : Namespace) (limit : ℕ) (jobs : List Job) (unit : ℕ) (history : List HistoryEntry)
    (parts : List RecordedPart) : Type 0 where
  -- The history is lawful where the unit lies: each entry changes blocks of this unit alone, and succeeds after those before.
  pub place : Place
  pub lies : IsUnitPlace ns unit place
  pub lawful : IsLawfulHistory place history
  -- Each entry is the part of a job that no check refuses.
  pub entries : (i : ℕ) (entry : HistoryEntry) → IsAt history i entry → IsPartOfItsJob ns jobs unit entry
  -- There is an entry exactly where its worker did this part of the job.
  pub claimed : (i : ℕ) (entry : HistoryEntry) → IsAt history i entry → IsClaimed parts i entry
  pub made : (k : ℕ) (p : RecordedPart) → IsAt parts k p → p.part.result ≡ Done → HasMadeEntry history p
  -- What was recorded of each part is right at its point.
  pub rests : (k : ℕ) (p : RecordedPart) → IsAt parts k p → IsRightAtItsPoint ns limit jobs history p
  -- In a worker's order the points never go back.
  pub order : PointsNeverGoBack parts
