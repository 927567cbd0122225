-- What a code says of a job that was gone on with, by the code alone.
use Rattle.std.proofs.Common.{◌≡◌, ◌⊎◌, ◌++◌, ◌∙◌, List, [], ℕ, Option, Some, None, IfSome, ap, append-nil, inl, inr, subst, sym}
use Rattle.nvm_plan.specs.declared.job.Job.{Job}
use Rattle.nvm_space.specs.Spaces.{SpaceName}
use Rattle.nvm_space.specs.Trace.{DoesJob}
use Rattle.nvm_space.specs.declared.job_done.JobDone.{JobDone}
use Rattle.nvm_unit.specs.declared.views.PassView.{PassView}
use Rattle.nvm_c.specs.Engines.{seen_by, space_of}
use Rattle.nvm_c.specs.Logs.{LogState}
use Rattle.nvm_c.specs.Pending.{HasBegun}
use Rattle.nvm_c.specs.Submitted.{Buffers, Begins, GoesOn, Polls, Progresses, Submits}
use Rattle.nvm_c.specs.Told.{posted_length, told_length}
use Rattle.nvm_c.specs.declared.code.Code.{Code}
use Rattle.nvm_c.specs.declared.code.Code.TheVariants.{Done, Pending, NotOpen, IsOpen, NoMemory, BadNamespace, BadPorts, BadLimit, BadLength, NoPair, Busy, Idle, Newer, OutOfRange, Crosses, NoVersions}
use Rattle.nvm_c.specs.declared.engine.Engine.{Engine}
use Rattle.nvm_c.specs.declared.engine.Pending.{Pending as PendingJob}
use Rattle.nvm_c.proofs.AtOnce.{told_behind}

-- the other of two, turned
or_else : {A B C : Type 0} → (B → C) → A ⊎ B → A ⊎ C
or_else f (inl a) = inl a
or_else f (inr b) = inr (f b)

-- what is said of what is held
module _ {A : Type 0} (P : A → Type 0) {o : Option A} {a : A} (is : o ≡ Some a) where
  pub of_held : IfSome o P → P a
  of_held said = subst (λ (o' : Option A). IfSome o' P) is said

  pub if_held : P a → IfSome o P
  if_held said = subst (λ (o' : Option A). IfSome o' P) (sym is) said

pub submits_of : (code : Code) (e e' : Engine) (entries : List ℕ) (old new : Buffers) → e.pending ≡ None
    → Begins code e e' entries old new → Submits code e e' entries old new
submits_of Done e e' entries old new none begins = (none, begins)
submits_of Pending e e' entries old new none begins = (none, begins)
submits_of NotOpen e e' entries old new none begins = absurd begins.progress
submits_of IsOpen e e' entries old new none begins = absurd begins.progress
submits_of NoMemory e e' entries old new none begins = absurd begins.progress
submits_of BadNamespace e e' entries old new none begins = absurd begins.progress
submits_of BadPorts e e' entries old new none begins = absurd begins.progress
submits_of BadLimit e e' entries old new none begins = absurd begins.progress
submits_of BadLength e e' entries old new none begins = absurd begins.progress
submits_of NoPair e e' entries old new none begins = absurd begins.progress
submits_of Busy e e' entries old new none begins = absurd begins.progress
submits_of Idle e e' entries old new none begins = absurd begins.progress
submits_of Newer e e' entries old new none begins = absurd begins.progress
submits_of OutOfRange e e' entries old new none begins = absurd begins.progress
submits_of Crosses e e' entries old new none begins = absurd begins.progress
submits_of NoVersions e e' entries old new none begins = absurd begins.progress

module _ (e e' : Engine) (p : PendingJob) (old new : Buffers) (is : e.pending ≡ Some p)
    (begun : (start : List PassView) × HasBegun (space_of e) p start (seen_by e)) where
  pub polls_of : (code : Code) → GoesOn code e e' p old new → Polls code e e' old new
  polls_of Done goes = (p, is, goes)
  polls_of Pending goes = (p, is, goes)
  polls_of NotOpen goes = absurd (goes.progress begun.0 begun.1)
  polls_of IsOpen goes = absurd (goes.progress begun.0 begun.1)
  polls_of NoMemory goes = absurd (goes.progress begun.0 begun.1)
  polls_of BadNamespace goes = absurd (goes.progress begun.0 begun.1)
  polls_of BadPorts goes = absurd (goes.progress begun.0 begun.1)
  polls_of BadLimit goes = absurd (goes.progress begun.0 begun.1)
  polls_of BadLength goes = absurd (goes.progress begun.0 begun.1)
  polls_of NoPair goes = absurd (goes.progress begun.0 begun.1)
  polls_of Busy goes = absurd (goes.progress begun.0 begun.1)
  polls_of Idle goes = absurd (goes.progress begun.0 begun.1)
  polls_of Newer goes = absurd (goes.progress begun.0 begun.1)
  polls_of OutOfRange goes = absurd (goes.progress begun.0 begun.1)
  polls_of Crosses goes = absurd (goes.progress begun.0 begun.1)
  polls_of NoVersions goes = absurd (goes.progress begun.0 begun.1)

-- a submission without a buffer
pub submits_alone : (code : Code) (e e' : Engine) (entries sent room room' posted posted' : List ℕ) → room ≡ [] → room' ≡ []
    → Submits code e e' entries (let old : Buffers = record { bytes = sent ++ room; posted = posted } in old) (let new : Buffers = record { bytes = sent ++ room'; posted = posted' } in new)
    → Submits code e e' entries (let old : Buffers = record { bytes = sent; posted = posted } in old) (let new : Buffers = record { bytes = sent; posted = posted' } in new)
submits_alone code e e' entries sent room room' posted posted' none none' is =
    let end : sent ++ room ≡ sent = ap (λ (l : List ℕ). sent ++ l) none ∙ append-nil sent in
    let end' : sent ++ room' ≡ sent = ap (λ (l : List ℕ). sent ++ l) none' ∙ append-nil sent in
    subst (λ (l : List ℕ). Submits code e e' entries (let old : Buffers = record { bytes = l; posted = posted } in old) (let new : Buffers = record { bytes = sent; posted = posted' } in new)) end
    (subst (λ (l : List ℕ). Submits code e e' entries (let old : Buffers = record { bytes = sent ++ room; posted = posted } in old) (let new : Buffers = record { bytes = l; posted = posted' } in new)) end' is)

-- The bytes before the buffer stay as they were, if there are any: then the job is a pair.
module _ (s : SpaceName) (number : ℕ) (job : Job) (start now : List PassView) (pending : Option PendingJob) (log log' : Option LogState)
    (sent old new posted posted' : List ℕ) (each : (told : JobDone) → DoesJob s.namespace s.lists number job start now told → told_length told.completions ≡ posted_length job.body)
    (either : (sent ≡ []) ⊎ (posted_length job.body ≡ 32)) where
  abbrev Goes : (code : Code) → List ℕ → List ℕ → Type 0
  Goes code bytes bytes' = Progresses code s number job start now pending log log' (record { bytes = bytes; posted = posted }) (record { bytes = bytes'; posted = posted' })

  pub progress_behind : (code : Code) → Goes code old new → Goes code (sent ++ old) (sent ++ new)
  progress_behind Done is =
      record {
        told = is.told;
        does = is.does;
        buffers = told_behind is.told.completions sent (or_else (λ two. each is.told is.does ∙ two) either) is.buffers;
        idle = is.idle;
        kept = is.kept;
      }
  progress_behind Pending is =
      record {
        held = is.held;
        kept = is.kept;
        numbered = is.numbered;
        of = is.of;
        goes = is.goes;
        log_kept = is.log_kept;
        buffers = ap (λ (b : Buffers). (let b' : Buffers = record { bytes = sent ++ b.bytes; posted = b.posted } in b')) is.buffers;
      }
  progress_behind NotOpen is = is
  progress_behind IsOpen is = is
  progress_behind NoMemory is = is
  progress_behind BadNamespace is = is
  progress_behind BadPorts is = is
  progress_behind BadLimit is = is
  progress_behind BadLength is = is
  progress_behind NoPair is = is
  progress_behind Busy is = is
  progress_behind Idle is = is
  progress_behind Newer is = is
  progress_behind OutOfRange is = is
  progress_behind Crosses is = is
  progress_behind NoVersions is = is
