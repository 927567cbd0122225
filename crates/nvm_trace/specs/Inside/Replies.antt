-- The replies of a trace beside what a record shows, one done job after the other.
use Rattle.std.specs.Prelude.{◌≡◌, ℕ, ◌<◌, List, Contains, Option, Some, None}
use Rattle.nvm_record.specs.Lists.{IsAt}
use Rattle.nvm_geometry.specs.Namespace.{Namespace}
use Rattle.nvm_audit.specs.RecordedJob.{RecordedJob}
use Rattle.nvm_trace.specs.Agreement.{AgreesWith}
use Rattle.nvm_trace.specs.Pieces.{Piece}

-- What is recorded agrees with the reply, if the job is a piece.
abbrev pub Agrees : Namespace → List Piece → RecordedJob → Type 0
Agrees ns pieces d = (p : Piece) → IsAt pieces d.job p → AgreesWith ns p d

-- It is the least number of these done jobs of which one doesn't agree, if there is one.
abbrev pub IsLeastWrong : Namespace → List Piece → List RecordedJob → Option ℕ → Type 0
IsLeastWrong ns pieces seen None = (d : RecordedJob) → Contains seen d → Agrees ns pieces d
IsLeastWrong ns pieces seen (Some number) =
    ((d : RecordedJob) → Contains seen d → d.job < number → Agrees ns pieces d)
    × ((d : RecordedJob) × Contains seen d × (d.job ≡ number) × (¬ (Agrees ns pieces d)))

-- What is recorded of the job of this number agrees with its reply.
abbrev pub HasReplyAt : Namespace → List Piece → List (List RecordedJob) → ℕ → Type 0
HasReplyAt ns pieces done number =
    (worker k : ℕ) (work : List RecordedJob) (d : RecordedJob) (p : Piece) → IsAt done worker work → IsAt work k d
    → d.job ≡ number → IsAt pieces number p → AgreesWith ns p d
