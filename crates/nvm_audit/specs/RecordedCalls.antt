-- The placed run of a unit of a record: its entries in order, and between them, at its point, each part that looked or that
-- is of a pair whose comparison failed (own). A part that found no memory, or the history at its limit, has no
-- place in it.
use Rattle.std.specs.Prelude.{◌≡◌, ℕ, nat_eq, List, [], ◌∷◌, filter, Option, Some}
use Rattle.nvm_record.specs.Lists.{IsAt}
use Rattle.nvm_record.specs.Step.{Operation}
use Rattle.nvm_geometry.specs.Namespace.{Namespace}
use Rattle.nvm_geometry.specs.Parts.{part_in}
use Rattle.nvm_plan.specs.declared.job.Job.{Job}
use Rattle.nvm_plan.specs.declared.part.PartResult.{PartResult}
use Rattle.nvm_plan.specs.declared.part.PartResult.TheVariants.{Done, Failed, Looked, NoMemory, Full}
use Rattle.nvm_plan.specs.CallOf.{resting_call}
use Rattle.nvm_plan.specs.Reply.{Reply}
use Rattle.nvm_store.specs.Call.{Call}
use Rattle.nvm_store.specs.HistoryEntry.{HistoryEntry}
use Rattle.nvm_store.specs.PlacedRun.{RunStep, changes, answers, entries_in, StandAtPoints}
use Rattle.nvm_store.specs.PassOrder.{steps_by}
use Rattle.nvm_audit.specs.LawfulUnit.{MadeEntry}
use Rattle.nvm_audit.specs.RecordedPart.{RecordedPart, told_of}
use Rattle.nvm_audit.specs.Resting.{DoesOperation, data_in}

-- the reply of a part that read this
abbrev pub reply_shown : RecordedPart → Option (List ℕ) → Reply
reply_shown p read = record { part = p.part; statuses = told_of p; payload = read }

-- The part is this call. Of a Read that failed in a later unit no data is recorded, so nothing is said here of what its
-- earlier parts read.
pub record IsCallOfPart (ns : Namespace) (jobs : List Job) (p : RecordedPart) (call : Call) : Type 0 where
  pub whole : Operation
  pub does : DoesOperation ns jobs p.done.job whole
  pub read : Option (List ℕ)
  pub is : call ≡ resting_call p.worker p.done.job (part_in ns whole p.part.unit) (reply_shown p read)
  pub shown : (bytes : List ℕ) → p.done.payload ≡ Some bytes → read ≡ Some (data_in ns whole p.part.unit bytes)

-- The steps begin with that of a part that ended so, and the rest follows: one that was done has its entry, one that looked and
-- a failed pair the call, and one that found no memory or a full history no step.
abbrev pub BeginsWithStep : Namespace → List Job → List HistoryEntry → RecordedPart → (List RunStep → Type 0) → PartResult → List RunStep → Type 0
BeginsWithStep ns jobs history p rest Done steps =
    (entry : HistoryEntry) × IsAt history p.part.point entry × MadeEntry p.part.point entry p
    × (left : List RunStep) × (steps ≡ changes entry ∷ left) × rest left
BeginsWithStep ns jobs history p rest Failed steps =
    (call : Call) × IsCallOfPart ns jobs p call × (left : List RunStep) × (steps ≡ answers call ∷ left) × rest left
BeginsWithStep ns jobs history p rest Looked steps =
    (call : Call) × IsCallOfPart ns jobs p call × (left : List RunStep) × (steps ≡ answers call ∷ left) × rest left
BeginsWithStep ns jobs history p rest NoMemory steps = rest steps
BeginsWithStep ns jobs history p rest Full steps = rest steps

-- These are the steps of the parts, in their order.
abbrev pub AreStepsOf : Namespace → List Job → List HistoryEntry → List RecordedPart → List RunStep → Type 0
AreStepsOf ns jobs history [] steps = steps ≡ []
AreStepsOf ns jobs history (p ∷ ps) steps =
    BeginsWithStep ns jobs history p (AreStepsOf ns jobs history ps) p.part.result steps

-- the parts of one worker, in its order
abbrev pub parts_by : ℕ → List RecordedPart → List RecordedPart
parts_by worker parts = filter (λ p. nat_eq p.worker worker) parts

-- The run is a placed run of the unit with this history, which these parts name: it has exactly the history's entries, in
-- order, and exactly the steps of each worker's parts, in the worker's order; and each call is at its point.
pub record IsPlacedRunOf (ns : Namespace) (jobs : List Job) (history : List HistoryEntry) (parts : List RecordedPart)
    (run : List RunStep) : Type 0 where
  pub whole : entries_in run ≡ history
  pub in_order : (worker : ℕ) → AreStepsOf ns jobs history (parts_by worker parts) (steps_by worker run)
  pub at_points : StandAtPoints 0 run
