-- The jobs of a trace and of a record, list beside list.
use Rattle.std.specs.Prelude.{◌≡◌, ℕ, ◌<◌, ◌≤◌, List}
use Rattle.nvm_record.specs.Lists.{IsAt}
use Rattle.nvm_geometry.specs.Namespace.{Namespace}
use Rattle.nvm_plan.specs.declared.job.Job.{Job}
use Rattle.nvm_trace.specs.declared.start.Start.{Start}
use Rattle.nvm_trace.specs.declared.start.Start.TheVariants.{Unknown}
use Rattle.nvm_trace.specs.declared.witness_fault.WitnessFault.{WitnessFault}
use Rattle.nvm_trace.specs.declared.witness_fault.WitnessFault.TheVariants.{NamespaceDiffers, JobDiffers, NoPreparation, Unlawful, ReplyDiffers, TimeBack, NoMemory}
use Rattle.nvm_trace.specs.ExplainedBy.{IsOneBlockWrite}
use Rattle.nvm_trace.specs.Pieces.{Piece, job_of}

-- These are the pieces, and each is a job at its number.
pub record AreMatched (ns : Namespace) (ps : List Piece) (jobs : List Job) (owners : List Piece) : Type 0 where
  pub owners_are : owners ≡ ps
  pub each : (number : ℕ) (p : Piece) → IsAt ps number p → IsAt jobs number (job_of ns p)

-- The first piece that isn't a job at its number has this one.
pub record IsFirstOther (ns : Namespace) (ps : List Piece) (jobs : List Job) (number : ℕ) : Type 0 where
  pub other : Piece
  pub there : IsAt ps number other
  pub differs : ¬ (IsAt jobs number (job_of ns other))
  pub before : (k : ℕ) (p : Piece) → k < number → IsAt ps k p → IsAt jobs k (job_of ns p)

-- Why the pieces weren't matched with the jobs.
abbrev pub IsOtherFault : Namespace → List Piece → List Job → WitnessFault → Type 0
IsOtherFault ns ps jobs NamespaceDiffers = ⊥
IsOtherFault ns ps jobs (JobDiffers number) = IsFirstOther ns ps jobs number
IsOtherFault ns ps jobs (NoPreparation number) = ⊥
IsOtherFault ns ps jobs (Unlawful fault) = ⊥
IsOtherFault ns ps jobs (ReplyDiffers number) = ⊥
IsOtherFault ns ps jobs (TimeBack number spot) = ⊥
IsOtherFault ns ps jobs NoMemory = Unit {0}

-- The job of this number, from the first that isn't traced, may be there as a preparation.
abbrev pub IsPreparedAt : Start → ℕ → List Job → ℕ → Type 0
IsPreparedAt start first jobs number =
    (job : Job) → first ≤ number → IsAt jobs number job → (start ≡ Unknown) × IsOneBlockWrite job.body
